-- Pages at entries of the last level: one that a call gives an address is there behind it, stays until a call may replace it or take it back, and is
-- what is then given back.
use Rattle.verdict_laws.proofs.Common.{◌≡◌, ℕ, ◌==◌, ◌&&◌, ◌||◌, Bool, true, false, not, Option, Some, inl, inr, refl, sym, ◌∙◌, ap, eqb-true, eq-eqb, and_from, and_parts, cases_Bool, not-true, or_cases, or_left, or_parts, or_right, Call, Command, Entry, Reply, call_of, changed, is_accepted, IsSound, State, Step, outcome, named, entry_number, both_ways, behind, tag-has_tag, step-refuses}
use Rattle.std.proofs.Common.{option_map}
use Rattle.std.proofs.Math.Bool.{or-false}
use Rattle.rmm_spec.specs.declared.call.Call.TheVariants as call
use Rattle.rmm_spec.specs.declared.entry.Entry.TheVariants.{Assigned}
use Rattle.rmm_spec.specs.declared.tag.Ripas.{Ripas}
use Rattle.rmm_spec.specs.declared.tag.Ripas.TheVariants.{Ram}
use Rattle.rmm_spec.specs.declared.tag.Tag.TheVariants.{Data}
use Rattle.rmm_spec.specs.Update.{entry_with_ripas}
use Rattle.rmm_spec.specs.Walk.{is_unassigned}
use Rattle.verdict_laws.specs.declared.facts.Fact.TheVariants as fact
use Rattle.verdict_laws.specs.Denying.{denies, is_other_entry, is_refused_with, needs_free, needs_other, reads_entry}
use Rattle.verdict_laws.specs.Facts.{creates_page, creates_unknown, frees_entry, gives_entry, has_page, is_one_entry, is_tag, may_reshape}
use Rattle.verdict_laws.specs.Separate.{is_freed}
use Rattle.verdict_laws.specs.Slices.{shows_names}
use Rattle.verdict_laws.proofs.EntryChanges.{leaf-left, leaf_found, leaf_reached, read-denied, same_entry-last}
use Rattle.verdict_laws.proofs.FactSteps.{IsDoneSo, are_told, step-has, step-untold}
use Rattle.verdict_laws.proofs.TagFacts.{IsCarried, carried_by, tag-denied}

-- ---- entries

-- another RIPAS leaves an entry its page
ripas_page : (page : ℕ) (ripas : Ripas) (found : Option Entry) → has_page found page ≡ true
    → has_page (option_map (entry_with_ripas ripas) found) page ≡ true
ripas_page page ripas (Some (Assigned old at)) has = has
ripas_page page ripas _ has = both_ways has refl

-- what has the page is there
page_there : (page : ℕ) (found : Option Entry) → has_page found page ≡ true → (ripas : Ripas) × (found ≡ Some (Assigned ripas page))
page_there page (Some (Assigned ripas at)) has = (ripas, ap (λ p. Some (Assigned ripas p)) (sym (eqb-true page at has)))
page_there page _ has = both_ways has refl

-- ---- behind a call

-- a call that gives the page to the address puts it there
behind_gives : (rd ipa page : ℕ) (s : State) (cpu : ℕ) (c : Call) → gives_entry c rd ipa page ≡ true
    → IsDoneSo (λ change. has_page ((changed s change).leaf rd 3 (entry_number 3 ipa)) page ≡ true) (behind s cpu c).1
unfolding behind gives_entry changed
behind_gives rd ipa page s cpu (call.DataCreate other granule at source flags digest) gives =
    let parts = and_parts (rd == other && is_one_entry ipa at) (page == granule) gives in rw (same_entry-last rd ipa other at ∙ parts.0) parts.1
behind_gives rd ipa page s cpu (call.DataCreateUnknown other granule at) gives =
    let parts = and_parts (rd == other && is_one_entry ipa at) (page == granule) gives in rw (same_entry-last rd ipa other at ∙ parts.0) parts.1
behind_gives rd ipa page s cpu _ gives = both_ways gives refl

-- DATA_DESTROY isn't refused for its entry
behind_frees : (rd ipa page : ℕ) (ripas : Ripas) (s : State) (cpu : ℕ) (c : Call) → IsSound s
    → s.leaf rd 3 (entry_number 3 ipa) ≡ Some (Assigned ripas page)
    → are_told (λ given. is_refused_with 4 given && frees_entry c rd ipa) (behind s cpu c).0 ≡ false
unfolding behind frees_entry
behind_frees rd ipa page ripas s cpu (call.DataDestroy other at) sound leaf = by (rd == other && is_one_entry ipa at) refl
  where
    by : (b : Bool) → (rd == other && is_one_entry ipa at) ≡ b
        → are_told (λ given. is_refused_with 4 given && b) (behind s cpu (call.DataDestroy other at)).0 ≡ false
    by false apart = refl
    by true same =
        rw (
          leaf_found s sound rd ipa (Assigned ripas page) leaf other at same refl,
          leaf_reached s sound rd ipa (Assigned ripas page) leaf other at same,
        ) refl
behind_frees rd ipa page ripas s cpu _ sound leaf = refl

-- and gives it back
destroy_freed : (rd ipa page : ℕ) (ripas : Ripas) (s new : State) (cpu : ℕ) (given : Reply) (c : Call) → IsSound s
    → s.leaf rd 3 (entry_number 3 ipa) ≡ Some (Assigned ripas page) → IsCarried s cpu c given new → frees_entry c rd ipa ≡ true
    → is_freed c given page ≡ true
unfolding behind frees_entry is_freed
destroy_freed rd ipa page ripas s new cpu given (call.DataDestroy other at) sound leaf carried frees =
    rw (carried.done.0, leaf_found s sound rd ipa (Assigned ripas page) leaf other at frees refl) (eq-eqb page page refl)
destroy_freed rd ipa page ripas s new cpu given _ sound leaf carried frees = both_ways frees refl

-- what needs an unassigned entry isn't carried out
carried_free : (rd ipa page : ℕ) (ripas : Ripas) (s new : State) (cpu : ℕ) (given : Reply) (c : Call) → IsSound s
    → s.leaf rd 3 (entry_number 3 ipa) ≡ Some (Assigned ripas page) → IsCarried s cpu c given new
    → (needs_free c rd ipa || creates_page c rd ipa) ≡ true → ⊥
unfolding behind needs_free creates_page
carried_free rd ipa page ripas s new cpu given (call.DataCreate other granule at source flags digest) sound leaf carried needs =
    both_ways carried.rows.1.1.1.0 (ap is_unassigned (leaf_found s sound rd ipa (Assigned ripas page) leaf other at needs refl))
carried_free rd ipa page ripas s new cpu given (call.DataCreateUnknown other granule at) sound leaf carried needs =
    let same = sym (or-false (rd == other && is_one_entry ipa at)) ∙ needs in
    both_ways carried.rows.1.1.0 (ap is_unassigned (leaf_found s sound rd ipa (Assigned ripas page) leaf other at same refl))
carried_free rd ipa page ripas s new cpu given (call.RttInitRipas other base top) sound leaf carried needs =
    let same = sym (or-false (rd == other && is_one_entry ipa base)) ∙ needs in
    both_ways carried.rows.1.1.0 (ap is_unassigned (leaf_found s sound rd ipa (Assigned ripas page) leaf other base same refl))
carried_free rd ipa page ripas s new cpu given _ sound leaf carried needs = both_ways needs refl

-- ---- steps

-- where the call gives the page to the address and is accepted, the page is there
pub page-made : (rd ipa page : ℕ) (s new : State) (cpu : ℕ) (command : Command) (given : Reply) → Step s cpu command given new
    → is_accepted given ≡ true → gives_entry (call_of command) rd ipa page ≡ true → has_page (new.leaf rd 3 (entry_number 3 ipa)) page ≡ true
page-made rd ipa page s new cpu command given step accepted gives =
    step-has (λ t. has_page (t.leaf rd 3 (entry_number 3 ipa)) page ≡ true) _ s new cpu command given (λ change is. is) (both_ways accepted)
    (behind_gives rd ipa page s cpu (call_of command) gives) step

-- DATA_CREATE_UNKNOWN needs it so
unknown_needs : (rd ipa : ℕ) (c : Call) → creates_unknown c rd ipa ≡ true → needs_free c rd ipa ≡ true
unfolding creates_unknown needs_free
unknown_needs rd ipa (call.DataCreateUnknown other granule at) creates = creates
unknown_needs rd ipa _ creates = both_ways creates refl

-- a page stays at its entry, but by a call that may reshape that, or gives it back
pub page-left : (rd ipa page : ℕ) (s new : State) (cpu : ℕ) (command : Command) (given : Reply) → IsSound s → Step s cpu command given new
    → (may_reshape (call_of command) rd ipa || (frees_entry (call_of command) rd ipa && is_freed (call_of command) given page)) ≡ false
    → has_page (s.leaf rd 3 (entry_number 3 ipa)) page ≡ true → has_page (new.leaf rd 3 (entry_number 3 ipa)) page ≡ true
page-left rd ipa page s new cpu command given sound step stays has =
    let c = call_of command in
    let (ripas, leaf) = page_there page (s.leaf rd 3 (entry_number 3 ipa)) has in
    let parts = or_parts (may_reshape c rd ipa) (frees_entry c rd ipa && is_freed c given page) stays in
    elim (cases_Bool (is_accepted given)) [
      | inl accepted ↦
          (let carried = carried_by s cpu command given new (outcome s cpu c) sound accepted refl step in
          leaf-left (λ (found : Option Entry). has_page found page) rd ipa s cpu sound (Assigned ripas page) leaf refl new command given step
          (record {
            stays = parts.0;
            given = λ granule creates.
                absurd (carried_free rd ipa page ripas s new cpu given c sound leaf carried (or_right (needs_free c rd ipa) _ creates));
            unknown = λ granule creates.
                absurd (carried_free rd ipa page ripas s new cpu given c sound leaf carried (or_left _ _ (unknown_needs rd ipa c creates)));
            freed = λ frees.
                both_ways (and_from _ _ frees (destroy_freed rd ipa page ripas s new cpu given c sound leaf carried frees)) parts.1;
            init = λ _. ripas_page page Ram;
            requested = λ its _. ripas_page page its;
          }) (eq-eqb page page refl))
      | inr refused ↦ ap (λ (t : State). has_page (t.leaf rd 3 (entry_number 3 ipa)) page) (step-refuses s new cpu command given step refused) ∙ has
    ]

-- and no reply shows its granule with another tag, or gives another back for it
page-shown : (rd ipa page : ℕ) (s new : State) (cpu : ℕ) (command : Command) (given : Reply) → IsSound s → Step s cpu command given new
    → has_page (s.leaf rd 3 (entry_number 3 ipa)) page ≡ true
    → ((shows_names given && needs_other (named (call_of command)) page Data)
    || (frees_entry (call_of command) rd ipa
    && (is_refused_with 4 given || (is_accepted given && not (is_freed (call_of command) given page))))) ≡ true → ⊥
page-shown rd ipa page s new cpu command given sound step has shows =
    let c = call_of command in
    let (ripas, leaf) = page_there page (s.leaf rd 3 (entry_number 3 ipa)) has in
    elim (or_cases (shows_names given && needs_other (named c) page Data) _ shows) [
      | inl shows ↦
          (let tagged = tag-has_tag s page Data (sound.leaves.pages rd 3 (entry_number 3 ipa) page ripas leaf) in
          tag-denied page Data s new cpu command given sound step (ap (λ tag. is_tag tag Data) tagged) (or_left _ _ shows))
      | inr kept ↦
          (let parts = and_parts (frees_entry c rd ipa) (is_refused_with 4 given || (is_accepted given && not (is_freed c given page))) kept in
          elim (or_cases (is_refused_with 4 given) _ parts.1) [
            | inl refused ↦
                both_ways (and_from _ _ refused parts.0)
                (step-untold (λ r. is_refused_with 4 r && frees_entry c rd ipa) (λ words. refl) refl refl s new cpu command given
                (behind_frees rd ipa page ripas s cpu c sound leaf) step)
            | inr other ↦
                (let both = and_parts (is_accepted given) (not (is_freed c given page)) other in
                let carried = carried_by s cpu command given new (outcome s cpu c) sound both.0 refl step in
                both_ways (destroy_freed rd ipa page ripas s new cpu given c sound leaf carried parts.0)
                (not-true (is_freed c given page) both.1))
          ])
    ]

-- nor is one carried out that needs its entry unassigned, or reads it as another
pub page-denied : (rd ipa page : ℕ) (s new : State) (cpu : ℕ) (command : Command) (given : Reply) → IsSound s → Step s cpu command given new
    → has_page (s.leaf rd 3 (entry_number 3 ipa)) page ≡ true → denies (fact.Assigned rd ipa page) (call_of command) given ≡ true → ⊥
page-denied rd ipa page s new cpu command given sound step has denied =
    let c = call_of command in
    let (ripas, leaf) = page_there page (s.leaf rd 3 (entry_number 3 ipa)) has in
    let reads = reads_entry c rd ipa && is_other_entry 1 page given in
    elim (or_cases _ (is_accepted given && (needs_free c rd ipa || creates_page c rd ipa || reads)) denied) [
      | inl shows ↦ page-shown rd ipa page s new cpu command given sound step has shows
      | inr done ↦
          (let both = and_parts (is_accepted given) (needs_free c rd ipa || creates_page c rd ipa || reads) done in
          elim (or_cases (needs_free c rd ipa || creates_page c rd ipa) reads both.1) [
            | inl needs ↦
                carried_free rd ipa page ripas s new cpu given c sound leaf
                (carried_by s cpu command given new (outcome s cpu c) sound both.0 refl step) needs
            | inr read ↦ read-denied rd ipa s new cpu command given sound step (Assigned ripas page) leaf refl both.0 read
          ])
    ]
