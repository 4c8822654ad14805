-- Entries of the last level, by any test: one that meets it does so until a call may replace it, or set a RIPAS with which it doesn't, and a walk for
-- its address finds it.
use Rattle.verdict_laws.proofs.Common.{◌≡◌, ℕ, ◌≤◌, ◌==◌, ◌&&◌, nat_le, nat_lt, Bool, true, false, IsTrue, List, [], ◌∷◌, Option, Some, None, is_some, inl, inr, refl, sym, ◌∙◌, ap, subst, eqb-true, arith, Ok, and_from, and_parts, cases_Bool, false_from_ne_true, not-true, Accepted, Done, Reaches, Call, Change, RealmMade, RealmDestroyed, RecordsChanged, TableMade, TableDestroyed, EntriesChanged, Replaced, RipasSet, RealmChange, RecChange, TagChange, Command, Entry, Reply, CanApply, call_of, changed, rec_at, request_of, is_accepted, ok, IsSound, State, CarriesOut, Step, outcome, IsReached, reached_change, entry_at, entry_number, reach, both_ways, behind, with_records, step-refuses}
use Rattle.std.proofs.Common.{◌/◌, option_map}
use Rattle.std.proofs.Math.Bool.{and-true}
use Rattle.std.proofs.lemmas.Bool.{eq-eqb, lt-ltb, ltb-true}
use Rattle.rmm_spec.specs.declared.call.Call.TheVariants as call
use Rattle.rmm_spec.specs.declared.entry.Entry.TheVariants.{Assigned, Unassigned}
use Rattle.rmm_spec.specs.declared.tag.Ripas.{Ripas}
use Rattle.rmm_spec.specs.declared.tag.Ripas.TheVariants.{Ram}
use Rattle.rmm_spec.specs.Lookup.{ripas_number}
use Rattle.rmm_spec.specs.Step.Data.{ripas_after_data}
use Rattle.rmm_spec.specs.Update.{entry_with_ripas, is_same_entry, is_same_table}
use Rattle.rmm_spec.specs.Walk.{entry_address, entry_ripas, entry_size, entry_state, is_table, table_number, walk}
use Rattle.spec_lemmas.proofs.WalkLaws.{reach-covers, reach-le}
use Rattle.rmm_laws.proofs.Applies.{Applies}
use Rattle.rmm_laws.proofs.Cases.{choice, spot_level}
use Rattle.rmm_laws.proofs.Keeps.{records-leaf}
use Rattle.rmm_laws.proofs.Spaces.{space_cases}
use Rattle.rmm_laws.proofs.Walked.{table_number-entry}
use Rattle.verdict_laws.specs.Denying.{is_other_entry, is_reported, reads_entry}
use Rattle.verdict_laws.specs.Facts.{creates_page, creates_unknown, frees_entry, is_one_entry, may_init, may_reshape, may_set_ripas}
use Rattle.verdict_laws.proofs.TagFacts.{IsCarried, carried_by}

-- ---- places

-- entries of the last level are one by their realm and number
pub same_entry-last : (rd ipa other at : ℕ)
    → is_same_entry other 3 (entry_number 3 at) rd 3 (entry_number 3 ipa) ≡ (rd == other && is_one_entry ipa at)
same_entry-last rd ipa other at = ap (λ b. b && is_one_entry ipa at) (and-true (rd == other))

-- a table of the last level is one by the number of its entries
last_table : (is : Bool) (level n ipa at : ℕ) → n / 512 ≡ table_number 3 ipa → (is && level == 3 && table_number 3 ipa == table_number 3 at) ≡ false
    → (is && 3 == level && n / 512 == table_number level at) ≡ false
last_table is level n ipa at number apart = false_from_ne_true _ (λ hit.
    let parts = and_parts (is && 3 == level) (n / 512 == table_number level at) hit in
    let outer = and_parts is (3 == level) parts.0 in
    let last = eqb-true 3 level outer.1 in
    let same = eqb-true (n / 512) (table_number level at) parts.1 ∙ ap (λ l. table_number l at) (sym last) in
    both_ways (rw (outer.0, eq-eqb level 3 (sym last), eq-eqb (table_number 3 ipa) (table_number 3 at) (sym number ∙ same)) refl) apart)

-- an entry of the last level between the ends of a stretch is where that is to be set
set_there : (is : Bool) (level base end top ipa : ℕ) → end ≤ top
    → (is && 3 == level && nat_le (entry_number level base) (entry_number 3 ipa) && nat_lt (entry_number 3 ipa) (entry_number level end)) ≡ true
    → (is && nat_le (entry_number 3 base) (entry_number 3 ipa) && nat_lt ipa top) ≡ true
unfolding entry_number entry_size
set_there is level base end top ipa within hit =
    let n = entry_number 3 ipa in
    let parts = and_parts (is && 3 == level && nat_le (entry_number level base) n) (nat_lt n (entry_number level end)) hit in
    let from = and_parts (is && 3 == level) (nat_le (entry_number level base) n) parts.0 in
    let last = and_parts is (3 == level) from.0 in
    let same = sym (eqb-true 3 level last.1) in
    let below = ltb-true n (entry_number 3 end) (ap (λ l. nat_lt n (entry_number l end)) (sym same) ∙ parts.1) in
    and_from _ _ (and_from _ _ last.0 (ap (λ l. nat_le (entry_number l base) n) (sym same) ∙ from.1))
    (lt-ltb ipa top (omega (arith, below, within)))

-- ---- where a walk for one ends

module _ (s : State) (sound : IsSound s) (rd ipa : ℕ) (e : Entry) (is : s.leaf rd 3 (entry_number 3 ipa) ≡ Some e)
    (other at : ℕ) (same : (rd == other && is_one_entry ipa at) ≡ true) where
  -- each address of the entry has it
  leaf_at : s.leaf other 3 (entry_number 3 at) ≡ Some e
  leaf_at =
      let parts = and_parts (rd == other) (is_one_entry ipa at) same in
      sym (λ i. s.leaf (eqb-true rd other parts.0 i) 3 (eqb-true (entry_number 3 ipa) (entry_number 3 at) parts.1 i)) ∙ is

  -- the walk goes as far as the last level
  pub leaf_reached : reach s other at 3 ≡ 3
  leaf_reached =
      let covers = ap (λ number. is_some (s.table other 3 number)) (table_number-entry 3 at (omega arith))
      ∙ sound.leaves.placed other 3 (entry_number 3 at) e leaf_at in
      omega (arith, reach-le s other at 3, (reach-covers s other at 3 3 covers (omega arith)).0)

  -- and finds the entry, if that is no link
  pub leaf_found : is_table e ≡ false → (walk s other at 3).entry ≡ e
  unfolding entry_at
  leaf_found unlinked = subst (λ l. entry_at s other l (entry_number l at) ≡ e) (sym leaf_reached) (rw (leaf_at, unlinked) refl)

-- ---- entries that meet a test

module _ (test : Option Entry → Bool) where
  -- what meets the test does so with the RIPAS
  abbrev pub Keeps : Ripas → Type 0
  Keeps ripas = (found : Option Entry) → test found ≡ true → test (option_map (entry_with_ripas ripas) found) ≡ true

  -- the change puts nothing that doesn't meet the test in place of an entry of the last level, and sets there no RIPAS with which that doesn't
  abbrev Stays : Change → ℕ → ℕ → Type 0
  Stays (RealmDestroyed other root) rd n = (rd == other) ≡ false
  Stays (TableMade other level number rtt entry) rd n = is_same_table other level number rd 3 (n / 512) ≡ false
  Stays (TableDestroyed other level number rtt entry) rd n = is_same_table other level number rd 3 (n / 512) ≡ false
  Stays (EntriesChanged other level (Replaced number entry) page realm rec) rd n =
      is_same_entry other level number rd 3 n ≡ true → test (Some entry) ≡ true
  Stays (EntriesChanged other level (RipasSet first last ripas) page realm rec) rd n =
      (rd == other && 3 == level && nat_le first n && nat_lt n last) ≡ true → Keeps ripas
  Stays _ rd n = Unit {0}

  -- so it is with what is done, up to an end that a stretch may have
  abbrev pub StaysDone : State → Accepted → ℕ → ℕ → Type 0
  StaysDone s (Done words change) rd n = Stays change rd n
  StaysDone s (Reaches stretch) rd n = (top : ℕ) → IsReached s stretch top → Stays (reached_change stretch top) rd n

  module _ (rd n : ℕ) (s : State) (met : test (s.leaf rd 3 n) ≡ true) where
    -- an entry that meets it does so behind the tag of a page and the records of a realm and of a REC
    records_met : (page : Option TagChange) (realm : Option RealmChange) (rec : Option RecChange)
        → test ((with_records s page realm rec).leaf rd 3 n) ≡ true
    records_met page realm rec =
        ap (λ (leaves : ℕ → ℕ → ℕ → Option Entry). test (leaves rd 3 n)) (records-leaf s page realm rec) ∙ met

    -- and behind a change that the state can take and that leaves it so
    changed_met : (change : Change) → IsSound s → CanApply s change → Stays change rd n
        → test ((changed s change).leaf rd 3 n) ≡ true
    unfolding changed
    changed_met (RealmMade other root width level vmid algo) sound can stays =
        let above : 3 ≡ level → ⊥ = λ last. elim (space_cases width level can.space) [
          | inl small ↦ omega (arith, last, small.1)
          | inr large ↦ omega (arith, large.1)
        ] in
        rw (spot_level other level 0 rd 3 (n / 512) above) met
    changed_met (RealmDestroyed other root) sound can stays = rw stays met
    changed_met (RecordsChanged realm rec) sound can stays = records_met None realm rec
    changed_met (TableMade other level number rtt entry) sound can stays =
        let last = can.place.last in
        rw (stays, spot_level other level number rd 4 n (λ same. omega (arith, last, same))) met
    changed_met (TableDestroyed other level number rtt entry) sound can stays =
        let last = (sound.tables.owned other level number rtt can.there).2.last in
        rw (stays, spot_level other level number rd 4 n (λ same. omega (arith, last, same))) met
    changed_met (EntriesChanged other level (Replaced number entry) page realm rec) sound can stays =
        choice (λ found. test found ≡ true) _ (is_same_entry other level number rd 3 n) (Some entry) _ refl
        stays (λ _. records_met page realm rec)
    changed_met (EntriesChanged other level (RipasSet first last ripas) page realm rec) sound can stays =
        choice (λ found. test found ≡ true) _ (rd == other && 3 == level && nat_le first n && nat_lt n last) _ _ refl
        (λ hit. stays hit _ (records_met page realm rec)) (λ _. records_met page realm rec)
    changed_met _ sound can stays = met

    -- so it does behind what is done
    pub carried_met : (new : State) (given : Reply) (found : Accepted) → IsSound s → StaysDone s found rd n
        → Applies s found → CarriesOut (Ok found) s given new → test (new.leaf rd 3 n) ≡ true
    carried_met new given (Done words change) sound stays can carried = rw carried.1 (changed_met change sound can stays)
    carried_met new given (Reaches stretch) sound stays can (top, (reached, is_ok, is_next)) =
        rw is_next (changed_met (reached_change stretch top) sound (can top reached) (stays top reached))

  -- A call can't replace the entry that is there by one, nor set a RIPAS, with which the test isn't met.
  pub record IsLeft (c : Call) (rd ipa : ℕ) (e : Entry) : Type 0 where
    pub stays : may_reshape c rd ipa ≡ false
    pub given : (granule : ℕ) → IsTrue (creates_page c rd ipa) → test (Some (Assigned Ram granule)) ≡ true
    pub unknown : (granule : ℕ) → IsTrue (creates_unknown c rd ipa) → test (Some (Assigned (entry_ripas e) granule)) ≡ true
    pub freed : IsTrue (frees_entry c rd ipa) → test (Some (Unassigned (ripas_after_data (entry_ripas e)))) ≡ true
    pub init : IsTrue (may_init c rd) → Keeps Ram
    pub requested : (ripas : Ripas) → IsTrue (may_set_ripas c rd ipa) → Keeps ripas

  module _ (rd ipa : ℕ) (s : State) (cpu : ℕ) (sound : IsSound s) (e : Entry) (leaf : s.leaf rd 3 (entry_number 3 ipa) ≡ Some e)
      (unlinked : is_table e ≡ false) where
    -- then it makes no change that does
    behind_leaves : (c : Call) → IsLeft c rd ipa e → StaysDone s (behind s cpu c).1 rd (entry_number 3 ipa)
    unfolding behind may_reshape creates_page creates_unknown frees_entry may_init may_set_ripas reached_change
    behind_leaves (call.DataCreate other granule at source flags digest) left = λ hit.
        left.given granule (sym (same_entry-last rd ipa other at) ∙ hit)
    behind_leaves (call.DataCreateUnknown other granule at) left = λ hit.
        let same = sym (same_entry-last rd ipa other at) ∙ hit in
        ap (λ x. test (Some (Assigned (entry_ripas x) granule))) (leaf_found s sound rd ipa e leaf other at same unlinked) ∙ left.unknown granule same
    behind_leaves (call.DataDestroy other at) left = λ hit.
        let same = sym (same_entry-last rd ipa other at) ∙ hit in
        ap (λ x. test (Some (Unassigned (ripas_after_data (entry_ripas x))))) (leaf_found s sound rd ipa e leaf other at same unlinked)
        ∙ left.freed same
    behind_leaves (call.RttMapUnprotected other at page) left = λ hit. both_ways (sym (same_entry-last rd ipa other at) ∙ hit) left.stays
    behind_leaves (call.RttUnmapUnprotected other at) left = λ hit. both_ways (sym (same_entry-last rd ipa other at) ∙ hit) left.stays
    behind_leaves (call.RttCreate other rtt at level) left =
        last_table (rd == other) level (entry_number 3 ipa) ipa at (sym (table_number-entry 3 ipa (omega arith))) left.stays
    behind_leaves (call.RttRemove removal other at level) left =
        last_table (rd == other) level (entry_number 3 ipa) ipa at (sym (table_number-entry 3 ipa (omega arith))) left.stays
    behind_leaves (call.RealmDestroy other) left = left.stays
    behind_leaves (call.RttInitRipas other base top) left = λ end reached hit.
        left.init (and_parts _ _ (and_parts _ _ (and_parts _ _ hit).0).0).0
    behind_leaves (call.RttSetRipas other rec base top) left = λ end reached hit.
        left.requested (request_of (rec_at s rec)).ripas (set_there (rd == other) (reach s other base 3) base end top ipa reached.within hit)
    behind_leaves _ left = tt

    -- so an entry that meets the test does so behind its step
    pub leaf-left : (new : State) (command : Command) (given : Reply) → Step s cpu command given new → IsLeft (call_of command) rd ipa e
        → test (Some e) ≡ true → test (new.leaf rd 3 (entry_number 3 ipa)) ≡ true
    leaf-left new command given step left met = elim (cases_Bool (is_accepted given)) [
      | inl accepted ↦
          (let c = call_of command in
          let carried = carried_by s cpu command given new (outcome s cpu c) sound accepted refl step in
          carried_met rd (entry_number 3 ipa) s (ap test leaf ∙ met) new given (behind s cpu c).1 sound (behind_leaves c left) carried.can
          carried.done)
      | inr refused ↦
          ap (λ (t : State). test (t.leaf rd 3 (entry_number 3 ipa))) (step-refuses s new cpu command given step refused) ∙ ap test leaf ∙ met
    ]

-- ---- what is reported of one

-- an entry that is read is reported, where it is no link
read_reported : (rd ipa : ℕ) (s new : State) (cpu : ℕ) (given : Reply) (c : Call) (e : Entry) → IsSound s → IsCarried s cpu c given new
    → s.leaf rd 3 (entry_number 3 ipa) ≡ Some e → is_table e ≡ false → reads_entry c rd ipa ≡ true
    → given ≡ ok (3 ∷ entry_state e ∷ entry_address e ∷ ripas_number (entry_ripas e) ∷ [])
unfolding behind reads_entry
read_reported rd ipa s new cpu given (call.RttReadEntry other at level) e sound carried leaf unlinked reads =
    let parts = and_parts (rd == other && level == 3) (is_one_entry ipa at) reads in
    let outer = and_parts (rd == other) (level == 3) parts.0 in
    let same = and_from _ _ outer.0 parts.1 in
    let last = eqb-true level 3 outer.1 in
    let words = λ (l : ℕ) (x : Entry). ok (l ∷ entry_state x ∷ entry_address x ∷ ripas_number (entry_ripas x) ∷ []) in
    carried.done.0
    ∙ (λ i. words (reach s other at (last i)) (walk s other at (last i)).entry)
    ∙ (λ i. words (leaf_reached s sound rd ipa e leaf other at same i) (leaf_found s sound rd ipa e leaf other at same unlinked i))
read_reported rd ipa s new cpu given _ e sound carried leaf unlinked reads = both_ways reads refl

-- so it isn't read as one of another state, address or RIPAS
module _ (rd ipa : ℕ) (s new : State) (cpu : ℕ) (command : Command) (given : Reply) (sound : IsSound s) (step : Step s cpu command given new)
    (e : Entry) (leaf : s.leaf rd 3 (entry_number 3 ipa) ≡ Some e) (unlinked : is_table e ≡ false) where
  -- what is replied
  abbrev reported : List ℕ
  reported = 3 ∷ entry_state e ∷ entry_address e ∷ ripas_number (entry_ripas e) ∷ []

  read_so : is_accepted given ≡ true → reads_entry (call_of command) rd ipa ≡ true → given ≡ ok reported
  read_so accepted =
      let c = call_of command in
      read_reported rd ipa s new cpu given c e sound (carried_by s cpu command given new (outcome s cpu c) sound accepted refl step) leaf unlinked

  pub read-denied : is_accepted given ≡ true → (reads_entry (call_of command) rd ipa && is_other_entry (entry_state e) (entry_address e) given) ≡ true
      → ⊥
  read-denied accepted denied =
      let parts = and_parts (reads_entry (call_of command) rd ipa) (is_other_entry (entry_state e) (entry_address e) given) denied in
      let is = read_so accepted parts.0 in
      both_ways
      (ap (λ r. is_reported 0 3 r && is_reported 1 (entry_state e) r && is_reported 2 (entry_address e) r) is
      ∙ and_from _ _ (and_from _ _ refl (eq-eqb (entry_state e) _ refl)) (eq-eqb (entry_address e) _ refl))
      (not-true _ parts.1)

  pub ripas_read-denied : is_accepted given ≡ true → reads_entry (call_of command) rd ipa ≡ true
      → is_reported 3 (ripas_number (entry_ripas e)) given ≡ true
  ripas_read-denied accepted reads =
      ap (is_reported 3 (ripas_number (entry_ripas e))) (read_so accepted reads) ∙ eq-eqb (ripas_number (entry_ripas e)) _ refl
