-- Entries of the last level that are unassigned: one that a call takes a page from, or makes in protected memory, is so behind it, stays so until a
-- call may replace it, and is found so.
use Rattle.verdict_laws.proofs.Common.{◌≡◌, ℕ, ◌-◌, ◌*◌, ◌<◌, ◌==◌, ◌&&◌, ◌||◌, nat_lt, Bool, true, false, IsTrue, Option, Some, None, inl, inr, refl, sym, ◌∙◌, ap, subst, eqb-true, eq-eqb, arith, and_from, and_parts, or_cases, or_parts, Call, Command, Entry, Reply, call_of, changed, is_accepted, IsSound, RealmRecord, State, Step, outcome, words_of, entry_number, reach, both_ways, behind}
use Rattle.std.proofs.Common.{◌/◌, ◌^◌, option_map}
use Rattle.std.proofs.Math.Bool.{or-false}
use Rattle.std.proofs.lemmas.Bool.{ltb-true}
use Rattle.rmm_spec.specs.declared.call.Call.TheVariants as call
use Rattle.rmm_spec.specs.declared.entry.Entry.TheVariants.{Unassigned, Assigned, Table, UnassignedNs, AssignedNs}
use Rattle.rmm_spec.specs.declared.tag.Ripas.{Ripas}
use Rattle.rmm_spec.specs.declared.tag.Ripas.TheVariants.{Ram}
use Rattle.rmm_spec.specs.Applicable.{CanMakeTable}
use Rattle.rmm_spec.specs.Rows.{all_allowed}
use Rattle.rmm_spec.specs.Sound.{IsLeafOf}
use Rattle.rmm_spec.specs.Step.Terms.{is_page}
use Rattle.rmm_spec.specs.Update.{entry_with_ripas}
use Rattle.rmm_spec.specs.Walk.{entry_size, half, is_assigned, is_table, is_unassigned, table_number, walk}
use Rattle.rmm_laws.proofs.Ends.{table_number-above}
use Rattle.rmm_laws.proofs.Entries.{leaf_fits, leaf_there}
use Rattle.rmm_laws.proofs.Walked.{entry_starts, table_number-entry}
use Rattle.verdict_laws.specs.declared.facts.Fact.TheVariants as fact
use Rattle.verdict_laws.specs.Denying.{denies, is_other_entry, is_refused_with, needs_free, reads_entry}
use Rattle.verdict_laws.specs.Facts.{creates_page, creates_unknown, frees_entry, is_free, is_one_entry, is_one_table, makes_table, may_assign, may_reshape}
use Rattle.verdict_laws.proofs.EntryChanges.{leaf-left, leaf_found, leaf_reached, read-denied, same_entry-last}
use Rattle.verdict_laws.proofs.FactSteps.{are_told, step-untold_allowed}
use Rattle.verdict_laws.proofs.Replies.{half-least, one_page}
use Rattle.verdict_laws.proofs.TagFacts.{IsCarried, carried_by}

-- ---- entries

-- another RIPAS leaves an entry unassigned
ripas_free : (ripas : Ripas) (found : Option Entry) → is_free found ≡ true → is_free (option_map (entry_with_ripas ripas) found) ≡ true
ripas_free ripas (Some (Unassigned old)) free = refl
ripas_free ripas (Some _) free = both_ways free refl
ripas_free ripas None free = both_ways free refl

-- what is unassigned is there
free_there : (found : Option Entry) → is_free found ≡ true → (ripas : Ripas) × (found ≡ Some (Unassigned ripas))
free_there (Some (Unassigned ripas)) free = (ripas, refl)
free_there (Some _) free = both_ways free refl
free_there None free = both_ways free refl

-- ---- new tables

-- a leaf of the protected half is unassigned, unless it has a page
pub unassigned_lower : (e : Entry) (r : RealmRecord) (level number : ℕ) → (IsTrue (is_assigned e) → level ≡ 3 → ⊥)
    → number * entry_size level < half r → IsLeafOf e r level number → is_unassigned e ≡ true
unassigned_lower (Unassigned ripas) r level number no_page lower fits = refl
unassigned_lower (Assigned ripas granule) r level number no_page lower fits = absurd (no_page refl fits.1)
unassigned_lower (Table granule) r level number no_page lower fits = absurd fits
unassigned_lower UnassignedNs r level number no_page lower fits = absurd (omega (arith, fits))
unassigned_lower (AssignedNs page) r level number no_page lower fits = absurd (omega (arith, fits.0))

module _ (s : State) (rd level number rtt : ℕ) (entry : Entry) (sound : IsSound s) (can : CanMakeTable s rd level number rtt entry) where
  -- what a new table is made of is a leaf of the table above
  made_fits : (r : RealmRecord) × (s.realm rd ≡ Some r) × IsLeafOf entry r (level - 1) number
  made_fits =
      let leaf = leaf_there s sound rd (level - 1) number can.parent (sym (ap is_table can.is_entry) ∙ can.leaf) in
      leaf_fits s sound rd (level - 1) number entry (leaf ∙ ap Some (sym can.is_entry))

  -- and is unassigned, if it covers an address of 38 bits
  made_unassigned : (ipa : ℕ) → table_number level ipa ≡ number → ipa < 2 ^ 38 → is_unassigned entry ≡ true
  made_unassigned ipa same below =
      let fits = made_fits in
      let wide = half-least fits.0 (sound.realms.spaces rd fits.0 fits.1) in
      let up : entry_number (level - 1) ipa ≡ number = sym (table_number-above level ipa (omega (arith, can.below_root))) ∙ same in
      let starts = rw up at (entry_starts (level - 1) ipa) in
      unassigned_lower entry fits.0 (level - 1) number (λ _ last. omega (arith, last, can.place.last)) (omega arith) fits.2

-- a table of the last level has the entry of each of its addresses, and covers them all
last_table-has : (is : Bool) (level ipa at : ℕ) → (is && 3 == level && is_one_table 3 ipa at) ≡ true
    → ((is && 3 == level && entry_number 3 ipa / 512 == table_number level at) ≡ true) × (table_number level ipa ≡ table_number level at)
last_table-has is level ipa at hit =
    let parts = and_parts (is && 3 == level) (is_one_table 3 ipa at) hit in
    let last = eqb-true 3 level (and_parts is (3 == level) parts.0).1 in
    let same = subst (λ l. table_number l ipa ≡ table_number l at) last (eqb-true (table_number 3 ipa) (table_number 3 at) parts.1) in
    let own = sym (table_number-entry 3 ipa (omega arith)) ∙ ap (λ l. table_number l ipa) last ∙ same in
    (and_from _ _ parts.0 (eq-eqb (entry_number 3 ipa / 512) (table_number level at) own), same)

-- ---- behind a call

-- DATA_DESTROY makes it unassigned, and so does RTT_CREATE in protected memory
made_free : (rd ipa : ℕ) (s new : State) (cpu : ℕ) (given : Reply) (c : Call) → IsSound s → IsCarried s cpu c given new
    → (frees_entry c rd ipa || (makes_table c rd 3 ipa && nat_lt ipa (2 ^ 38))) ≡ true → is_free (new.leaf rd 3 (entry_number 3 ipa)) ≡ true
unfolding behind frees_entry makes_table changed
made_free rd ipa s new cpu given (call.DataDestroy other at) sound carried makes =
    rw (carried.done.1, same_entry-last rd ipa other at ∙ sym (or-false (rd == other && is_one_entry ipa at)) ∙ makes) refl
made_free rd ipa s new cpu given (call.RttCreate other rtt at level) sound carried makes =
    let parts = and_parts (rd == other && 3 == level && is_one_table 3 ipa at) (nat_lt ipa (2 ^ 38)) makes in
    let place = last_table-has (rd == other) level ipa at parts.0 in
    rw (carried.done.1, place.0)
    (made_unassigned s other level (table_number level at) rtt _ sound carried.can ipa place.1 (ltb-true ipa (2 ^ 38) parts.1))
made_free rd ipa s new cpu given _ sound carried makes = both_ways makes refl

module _ (rd ipa : ℕ) (s : State) (cpu : ℕ) (sound : IsSound s) (free : is_free (s.leaf rd 3 (entry_number 3 ipa)) ≡ true) where
  -- a walk for one of its addresses finds it, at the last level
  free_found : (other at : ℕ) → (rd == other && is_one_entry ipa at) ≡ true
      → (ripas : Ripas) × ((walk s other at 3).entry ≡ Unassigned ripas) × (reach s other at 3 ≡ 3)
  free_found other at same =
      let there = free_there (s.leaf rd 3 (entry_number 3 ipa)) free in
      let e = Unassigned there.0 in
      (there.0, leaf_found s sound rd ipa e there.1 other at same refl, leaf_reached s sound rd ipa e there.1 other at same)

  -- so neither DATA_CREATE_UNKNOWN nor RTT_INIT_RIPAS is refused for it, if its words are allowed
  behind_free : (c : Call) → needs_free c rd ipa ≡ true → all_allowed (words_of c) ≡ true
      → are_told (is_refused_with 4) (behind s cpu c).0 ≡ false
  unfolding behind needs_free entry_size words_of
  behind_free (call.DataCreateUnknown other granule at) same allowed =
      let found = free_found other at same in rw (found.1, found.2) refl
  behind_free (call.RttInitRipas other base top) same allowed =
      let words = and_parts (is_page base) (is_page top && (nat_lt base top && true)) allowed in
      let ends = and_parts (is_page top) (nat_lt base top && true) words.1 in
      let ordered = and_parts (nat_lt base top) true ends.1 in
      let found = free_found other base same in
      rw (found.1, found.2, words.0, one_page base top words.0 ends.0 ordered.0) refl
  behind_free _ same allowed = both_ways same refl

-- ---- steps

-- where the call takes the page back, or makes the entry in protected memory, and is accepted, the entry is unassigned
pub entry-made : (rd ipa : ℕ) (s new : State) (cpu : ℕ) (command : Command) (given : Reply) → IsSound s → Step s cpu command given new
    → is_accepted given ≡ true → (frees_entry (call_of command) rd ipa || (makes_table (call_of command) rd 3 ipa && nat_lt ipa (2 ^ 38))) ≡ true
    → is_free (new.leaf rd 3 (entry_number 3 ipa)) ≡ true
entry-made rd ipa s new cpu command given sound step accepted =
    let c = call_of command in
    made_free rd ipa s new cpu given c sound (carried_by s cpu command given new (outcome s cpu c) sound accepted refl step)

-- an entry that is unassigned stays so, but by a call that may replace it
pub entry-left : (rd ipa : ℕ) (s new : State) (cpu : ℕ) (command : Command) (given : Reply) → IsSound s → Step s cpu command given new
    → may_assign (call_of command) rd ipa ≡ false → is_free (s.leaf rd 3 (entry_number 3 ipa)) ≡ true
    → is_free (new.leaf rd 3 (entry_number 3 ipa)) ≡ true
entry-left rd ipa s new cpu command given sound step stays free =
    let c = call_of command in
    let there = free_there (s.leaf rd 3 (entry_number 3 ipa)) free in
    let parts = or_parts (may_reshape c rd ipa || creates_page c rd ipa) (creates_unknown c rd ipa) stays in
    let both = or_parts (may_reshape c rd ipa) (creates_page c rd ipa) parts.0 in
    leaf-left is_free rd ipa s cpu sound (Unassigned there.0) there.1 refl new command given step (record {
      stays = both.0;
      given = λ granule creates. both_ways creates both.1;
      unknown = λ granule creates. both_ways creates parts.1;
      freed = λ _. refl;
      init = λ _. ripas_free Ram;
      requested = λ ripas _. ripas_free ripas;
    }) refl

-- no page is taken back from it
destroy_denied : (rd ipa : ℕ) (s new : State) (cpu : ℕ) (given : Reply) (c : Call) → IsSound s → IsCarried s cpu c given new
    → is_free (s.leaf rd 3 (entry_number 3 ipa)) ≡ true → frees_entry c rd ipa ≡ true → ⊥
unfolding behind frees_entry
destroy_denied rd ipa s new cpu given (call.DataDestroy other at) sound carried free frees =
    let there = free_there (s.leaf rd 3 (entry_number 3 ipa)) free in
    both_ways carried.rows.1.1.0 (ap is_assigned (leaf_found s sound rd ipa (Unassigned there.0) there.1 other at frees refl))
destroy_denied rd ipa s new cpu given _ sound carried free frees = both_ways frees refl

-- nor is it refused to be given a page, or its RIPAS to be set, or read as another
pub entry-denied : (rd ipa : ℕ) (s new : State) (cpu : ℕ) (command : Command) (given : Reply) → IsSound s → Step s cpu command given new
    → is_free (s.leaf rd 3 (entry_number 3 ipa)) ≡ true → denies (fact.Unassigned rd ipa) (call_of command) given ≡ true → ⊥
entry-denied rd ipa s new cpu command given sound step free denied =
    let c = call_of command in
    let reads = reads_entry c rd ipa && is_other_entry 0 0 given in
    let there = free_there (s.leaf rd 3 (entry_number 3 ipa)) free in
    elim (or_cases (is_accepted given && (frees_entry c rd ipa || reads)) (is_refused_with 4 given && needs_free c rd ipa) denied) [
      | inl done ↦
          (let parts = and_parts (is_accepted given) (frees_entry c rd ipa || reads) done in
          elim (or_cases (frees_entry c rd ipa) reads parts.1) [
            | inl taken ↦
                (let carried = carried_by s cpu command given new (outcome s cpu c) sound parts.0 refl step in
                destroy_denied rd ipa s new cpu given c sound carried free taken)
            | inr read ↦ read-denied rd ipa s new cpu command given sound step (Unassigned there.0) there.1 refl parts.0 read
          ])
      | inr refused ↦
          (let parts = and_parts (is_refused_with 4 given) (needs_free c rd ipa) refused in
          both_ways parts.0 (step-untold_allowed (is_refused_with 4) (λ words. refl) refl refl s new cpu command given
          (behind_free rd ipa s cpu sound free c parts.1) step))
    ]
