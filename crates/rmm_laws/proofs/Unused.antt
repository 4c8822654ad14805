-- A table that may be taken out keeps nothing in use.
use Rattle.rmm_laws.proofs.SoundCommon.{◌*◌, ◌+◌, ◌≡◌, Bool, Entry, IsTrue, None, Ripas, Some, State, Unassigned, UnassignedNs, both_ways, entry_at, false, if◌then◌else◌, is_some, refl, suc, true, zero, ℕ}
use Rattle.std.proofs.lemmas.Bool.{or_parts}
use Rattle.rmm_spec.specs.declared.call.Removal.{Removal}
use Rattle.rmm_spec.specs.declared.call.Removal.TheVariants.{Destroy, Fold}
use Rattle.rmm_spec.specs.declared.entry.EntryTest.TheVariants.{Unlike}
use Rattle.rmm_spec.specs.Lookup.{any_below}
use Rattle.rmm_spec.specs.Walk.{is_live, is_unlike, has_entry, is_in_use, entry_ripas}
use Rattle.rmm_spec.specs.Step.Table.{ripas_left}

-- what is there only where a test fails
fails_there : (test : Bool) (ripas : Ripas) → IsTrue (is_some (if test then None else Some ripas)) → test ≡ false
fails_there true ripas there = both_ways there refl
fails_there false ripas there = refl

-- where a search finds nothing, one for less doesn't
finds_less : (n : ℕ) (p q : ℕ → Bool) → ((k : ℕ) → p k ≡ false → q k ≡ false) → any_below n p ≡ false → any_below n q ≡ false
finds_less zero p q less none = refl
finds_less (suc n) p q less none =
    let parts = or_parts (p n) (any_below n p) none in rw (less n parts.0, finds_less n p q less parts.1) refl

-- what is unassigned as another keeps no table in use
alike_idle : (first e : Entry) → is_unlike first e ≡ false → is_live e ≡ false
alike_idle (Unassigned ripas) (Unassigned other) alike = refl
alike_idle UnassignedNs UnassignedNs alike = refl
alike_idle _ _ alike = both_ways refl alike

-- a table that may be taken out isn't in use
pub left_unused : (s : State) (removal : Removal) (rd level number : ℕ)
    → IsTrue (is_some (ripas_left removal s rd level number)) → is_in_use s rd level number ≡ false
unfolding ripas_left has_entry
left_unused s Destroy rd level number there = fails_there (is_in_use s rd level number) _ there
left_unused s Fold rd level number there =
    let first = entry_at s rd level (512 * number) in
    let each : ℕ → Entry = λ k. entry_at s rd level (512 * number + k) in
    finds_less 512 (λ k. is_unlike first (each k)) (λ k. is_live (each k)) (λ k. alike_idle first (each k))
    (fails_there (has_entry s rd level number (Unlike first)) (entry_ripas first) there)
