-- Addresses that a table covers: one that a call makes covers them behind it, does so until it is taken out, and no walk for them ends above it.
use Rattle.verdict_laws.proofs.Common.{◌≡◌, ℕ, ◌-◌, ◌≤◌, ◌==◌, ◌&&◌, nat_le, nat_lt, if◌then◌else◌, Bool, true, false, is_some, Option, Some, None, refl, sym, ◌∙◌, ap, eqb-true, arith, and_parts, false_from_ne_true, Call, Change, RealmMade, RealmDestroyed, RecordsChanged, TableMade, TableDestroyed, EntriesChanged, Replaced, RipasSet, RealmChange, RecChange, TagChange, Command, Reply, call_of, changed, with_realm_change, with_tag_change, is_accepted, IsSound, State, Step, outcome, reached_change, reach, both_ways, behind, with_records}
use Rattle.std.proofs.lemmas.Bool.{and_right, leb-true, ltb-true}
use Rattle.rmm_spec.specs.declared.call.Call.TheVariants as call
use Rattle.rmm_spec.specs.declared.reply.Reply.TheVariants as reply
use Rattle.rmm_spec.specs.Step.Terms.{Way, way, way_of}
use Rattle.rmm_spec.specs.Update.{is_same_table}
use Rattle.rmm_spec.specs.Walk.{table_number}
use Rattle.spec_lemmas.proofs.WalkLaws.{reach-covers}
use Rattle.rmm_laws.proofs.Cases.{some_either}
use Rattle.rmm_laws.proofs.Keeps.{realm_change-rest, rec_change-rest, tag_change-rest}
use Rattle.verdict_laws.specs.declared.facts.Fact.TheVariants as fact
use Rattle.verdict_laws.specs.Denying.{denies, goes_to, is_above, reads}
use Rattle.verdict_laws.specs.Facts.{is_covered, is_one_table, makes_table, may_uncover}
use Rattle.verdict_laws.proofs.FactSteps.{IsDoneSo, are_told, step-has, step-untold}
use Rattle.verdict_laws.proofs.TagFacts.{IsCarried, carried_by}

-- ---- behind a change

-- whether the change takes out the table
abbrev is_taken_by : Change → ℕ → ℕ → ℕ → Bool
is_taken_by (RealmDestroyed other root) rd level number = rd == other
is_taken_by (TableDestroyed other its_level its_number rtt entry) rd level number = is_same_table other its_level its_number rd level number
is_taken_by _ rd level number = false

module _ (rd level number : ℕ) (s : State) where
  -- the table is there in a state
  abbrev IsThere : State → Type 0
  IsThere t = is_some (t.table rd level number) ≡ true

  -- it stays behind the tag of a page and the records of a realm and of a REC
  records_there : (page : Option TagChange) (realm : Option RealmChange) (rec : Option RecChange) → IsThere s
      → IsThere (with_records s page realm rec)
  records_there page realm rec there =
      let t = with_tag_change s page in
      ap (λ (tables : ℕ → ℕ → ℕ → Option ℕ). is_some (tables rd level number))
      ((rec_change-rest (with_realm_change t realm) rec).1 ∙ (realm_change-rest t realm).1 ∙ (tag_change-rest s page).0)
      ∙ there

  -- and behind a change that doesn't take it out
  changed_there : (change : Change) → is_taken_by change rd level number ≡ false → IsThere s → IsThere (changed s change)
  unfolding changed
  changed_there (RealmMade other root width its_level vmid algo) stays there =
      some_either (is_same_table other its_level 0 rd level number) root (s.table rd level number) there
  changed_there (RealmDestroyed other root) stays there = rw stays there
  changed_there (RecordsChanged realm rec) stays there = records_there None realm rec there
  changed_there (TableMade other its_level its_number rtt entry) stays there =
      some_either (is_same_table other its_level its_number rd level number) rtt (s.table rd level number) there
  changed_there (TableDestroyed other its_level its_number rtt entry) stays there = rw stays there
  changed_there (EntriesChanged other its_level (Replaced its_number entry) page realm rec) stays there = records_there page realm rec there
  changed_there (EntriesChanged other its_level (RipasSet first last ripas) page realm rec) stays there = records_there page realm rec there
  changed_there _ stays there = there

-- ---- behind a call

-- tables of one level are one by the numbers of that level
same_level : (is : Bool) (level its_level ipa at : ℕ)
    → (is && level == its_level && table_number level ipa == table_number its_level at) ≡ (is && level == its_level && is_one_table level ipa at)
same_level is level its_level ipa at = by (level == its_level) refl
  where
    by : (b : Bool) → (level == its_level) ≡ b
        → (is && b && table_number level ipa == table_number its_level at) ≡ (is && b && is_one_table level ipa at)
    by true same = ap (λ l. is && true && table_number level ipa == table_number l at) (sym (eqb-true level its_level same))
    by false apart = rw (and_right is false refl) refl

-- whether a reply says that a table of the level is missing, or an entry above it is in the way
abbrev is_refused_above : ℕ → Reply → Bool
is_refused_above level (reply.Ok words) = false
is_refused_above level (reply.Err status index) = status == 4 && nat_lt index level
is_refused_above level reply.Misplaced = false

module _ (rd level ipa : ℕ) (s : State) (cpu : ℕ) where
  -- RTT_CREATE puts it in
  behind_makes : (c : Call) → makes_table c rd level ipa ≡ true
      → IsDoneSo (λ change. is_covered (changed s change) rd level ipa ≡ true) (behind s cpu c).1
  unfolding behind makes_table changed
  behind_makes (call.RttCreate other rtt at its_level) makes =
      let number = table_number level ipa in
      ap (λ (b : Bool). is_some (if b then Some rtt else s.table rd level number)) (same_level (rd == other) level its_level ipa at ∙ makes)
  behind_makes _ makes = both_ways makes refl

  -- a call that can't take it out makes no change that does
  behind_leaves : (c : Call) → may_uncover c rd level ipa ≡ false
      → IsDoneSo (λ change. is_taken_by change rd level (table_number level ipa) ≡ false) (behind s cpu c).1
  unfolding behind may_uncover reached_change
  behind_leaves (call.RttRemove removal other at its_level) stays = same_level (rd == other) level its_level ipa at ∙ stays
  behind_leaves (call.RealmDestroy other) stays = stays
  behind_leaves (call.RttInitRipas other base top) stays = λ end. refl
  behind_leaves (call.RttSetRipas other rec base top) stays = λ end. refl
  behind_leaves _ stays = refl

  module _ (covered : is_covered s rd level ipa ≡ true) where
    -- where a walk for the address goes as far as the table, it doesn't end above it
    not_above : (to : Way) (index : ℕ) → (level ≤ reach s to.rd to.ipa to.max → level ≤ to.max → level ≤ index)
        → (nat_lt index level && goes_to (Some to) rd level ipa) ≡ false
    not_above to index below = false_from_ne_true _ (λ is.
        let parts = and_parts (nat_lt index level) (goes_to (Some to) rd level ipa) is in
        let goes = and_parts (rd == to.rd && nat_le level to.max) (is_one_table level ipa to.ipa) parts.1 in
        let far = and_parts (rd == to.rd) (nat_le level to.max) goes.0 in
        let within = leb-true level to.max far.1 in
        let covers = sym (λ i. is_some (s.table (eqb-true rd to.rd far.0 i) level (eqb-true _ _ goes.1 i))) ∙ covered in
        let under = ltb-true index level parts.0 in
        let over = below (reach-covers s to.rd to.ipa level to.max covers within).0 within in
        omega (arith, under, over))

    -- so its end isn't above the table
    ends : (to : Way) → (nat_lt (reach s to.rd to.ipa to.max) level && goes_to (Some to) rd level ipa) ≡ false
    ends to = not_above to (reach s to.rd to.ipa to.max) (λ end last. end)

    -- nor is the last level that it may reach
    lasts : (to : Way) → (nat_lt to.max level && goes_to (Some to) rd level ipa) ≡ false
    lasts to = not_above to to.max (λ end last. last)

    -- so no row of a call says that its walk ends above the table
    behind_goes : (c : Call) → are_told (λ given. is_refused_above level given && goes_to (way_of c) rd level ipa) (behind s cpu c).0 ≡ false
    unfolding behind way_of
    behind_goes (call.DataCreate other granule at source flags digest) = rw (ends (way other at 3), lasts (way other at 3)) refl
    behind_goes (call.DataCreateUnknown other granule at) = rw (ends (way other at 3), lasts (way other at 3)) refl
    behind_goes (call.DataDestroy other at) = rw (ends (way other at 3), lasts (way other at 3)) refl
    behind_goes (call.RttCreate other rtt at its_level) = rw (ends (way other at (its_level - 1)), lasts (way other at (its_level - 1))) refl
    behind_goes (call.RttRemove removal other at its_level) =
        let to = way other at (its_level - 1) in rw (ends to, not_above to its_level (λ end last. omega (arith, last))) refl
    behind_goes (call.RttMapUnprotected other at page) = rw (ends (way other at 3), lasts (way other at 3)) refl
    behind_goes (call.RttUnmapUnprotected other at) = rw (ends (way other at 3), lasts (way other at 3)) refl
    behind_goes (call.RttInitRipas other base top) = rw (ends (way other base 3)) refl
    behind_goes (call.RttSetRipas other rec base top) = rw (ends (way other base 3)) refl
    behind_goes _ = refl

-- ---- steps

-- where the call makes a table that covers the address and is accepted, the table covers it
pub table-made : (rd level ipa : ℕ) (s new : State) (cpu : ℕ) (command : Command) (given : Reply) → Step s cpu command given new
    → is_accepted given ≡ true → makes_table (call_of command) rd level ipa ≡ true → is_covered new rd level ipa ≡ true
table-made rd level ipa s new cpu command given step accepted makes =
    step-has (λ t. is_covered t rd level ipa ≡ true) _ s new cpu command given (λ change is. is) (both_ways accepted)
    (behind_makes rd level ipa s cpu (call_of command) makes) step

-- an address that is covered stays so, but by a call that may take out the table
pub table-left : (rd level ipa : ℕ) (s new : State) (cpu : ℕ) (command : Command) (given : Reply) → Step s cpu command given new
    → may_uncover (call_of command) rd level ipa ≡ false → is_covered s rd level ipa ≡ true → is_covered new rd level ipa ≡ true
table-left rd level ipa s new cpu command given step stays is =
    let number = table_number level ipa in
    step-has (λ t. is_covered t rd level ipa ≡ true) (λ change. is_taken_by change rd level number ≡ false) s new cpu command given
    (λ change left. changed_there rd level number s change left is) (λ _. is) (behind_leaves rd level ipa s cpu (call_of command) stays) step

module _ (rd level ipa : ℕ) (s new : State) (cpu : ℕ) (command : Command) (sound : IsSound s) (covered : is_covered s rd level ipa ≡ true) where
  -- the call
  abbrev c : Call
  c = call_of command

  -- an entry that is read isn't above it
  read_below : (given : Reply) (asked : Call) → IsCarried s cpu asked given new → reads asked ≡ true
      → (is_above asked given level && goes_to (way_of asked) rd level ipa) ≡ false
  unfolding behind reads way_of
  read_below given (call.RttReadEntry other at its_level) carried is =
      ap (λ r. is_above (call.RttReadEntry other at its_level) r level && goes_to (Some (way other at its_level)) rd level ipa) carried.done.0
      ∙ ends rd level ipa s cpu covered (way other at its_level)
  read_below given _ carried is = both_ways is refl

  -- and no call that walks to it as far as the table is refused above that, or reads an entry there
  pub table-denied : (given : Reply) → Step s cpu command given new → denies (fact.Covered rd level ipa) c given ≡ true → ⊥
  table-denied (reply.Ok words) step denied =
      let above = and_parts (is_above c (reply.Ok words) level) (goes_to (way_of c) rd level ipa) denied in
      let read = and_parts (reads c) _ above.0 in
      both_ways denied (read_below (reply.Ok words) c
      (carried_by s cpu command (reply.Ok words) new (outcome s cpu c) sound refl refl step) read.0)
  table-denied (reply.Err status index) step denied =
      both_ways denied (step-untold (λ r. is_refused_above level r && goes_to (way_of c) rd level ipa) (λ words. refl) refl refl s new cpu command
      (reply.Err status index) (behind_goes rd level ipa s cpu covered c) step)
  table-denied reply.Misplaced step denied = both_ways denied refl
