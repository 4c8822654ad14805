-- Where a table's counts tell of no entry that a stretch may not set, each end of the stretch is reached.
use Rattle.spec_machine.proofs.Common.{◌%◌, ◌+◌, ◌-◌, ◌/◌, ◌<◌, ◌∙◌, ◌∷◌, ◌≡◌, ◌≤◌, Bool, Entry, Granules, IsShapedIn, List, None, Option, Some, TableRecord, [], ap, arith, entry_at, entry_number, false, none-some, refl, same_Some, slice_get, state_in, subst, suc, sym, true, zero, ℕ}
use Rattle.std.proofs.Common.{not}
use Rattle.std.specs.List.{list_any}
use Rattle.std.proofs.lemmas.Bool.{or_parts, and_from}
use Rattle.rmm_spec.specs.declared.accepted.Stretch.{Stretch}
use Rattle.rmm_spec.specs.declared.accepted.StretchUse.{StretchUse}
use Rattle.rmm_spec.specs.declared.accepted.StretchUse.TheVariants.{Init, Requested}
use Rattle.rmm_spec.specs.declared.entry.Entry.TheVariants as entry
use Rattle.rmm_spec.specs.Lookup.{all_below}
use Rattle.rmm_spec.specs.Step.Ripas.{can_be_set, is_reached}
use Rattle.rmm_spec.specs.Walk.{is_live, is_table}
use Rattle.rmm_laws.proofs.ShapeTies.{entry_there}
use Rattle.spec_machine.specs.Searches.{StandsAs, IsTable, IsFree, is_end}
use Rattle.spec_machine.proofs.HeldEntries.{entry-stands}
use Rattle.spec_machine.proofs.Stretches.{in_table, reached-all}

-- where no entry passes a test, the one at a place doesn't
none_at : (p : Entry → Bool) (xs : List Entry) (k : ℕ) (e : Entry) → list_any p xs ≡ false → slice_get xs k ≡ Some e → p e ≡ false
none_at p [] k e none at = absurd (none-some e at)
none_at p (x ∷ xs) zero e none at = ap p (sym (same_Some x e at)) ∙ (or_parts (p x) (list_any p xs) none).0
none_at p (x ∷ xs) (suc k) e none at = none_at p xs k e (or_parts (p x) (list_any p xs) none).1 at

-- an entry that keeps no table in use may be set for any purpose, and one that is no link as a REC asked
settable : (purpose : StretchUse) (t : TableRecord) (k : ℕ) (e : Entry) → IsFree (Some t) purpose → slice_get t.entries k ≡ Some e
    → can_be_set purpose e ≡ true
settable Init t k e free at = by e (none_at is_live t.entries k e free at)
  where
    by : (e : Entry) → is_live e ≡ false → can_be_set Init e ≡ true
    by (entry.Assigned ripas granule) dead = sym dead
    by (entry.Table granule) dead = sym dead
    by _ dead = refl
settable (Requested rec ripas) t k e free at = ap not (none_at is_table t.entries k e free at)

-- a test that each number passes
all_below-from : (passes : ℕ → Bool) (n : ℕ) → ((k : ℕ) → k < n → passes k ≡ true) → all_below n passes ≡ true
all_below-from passes zero each = refl
all_below-from passes (suc n) each =
    and_from (passes n) (all_below n passes) (each n (omega arith)) (all_below-from passes n (λ k below. each k (omega (arith, below))))

module _ (g : Granules) (shaped : IsShapedIn g) (stretch : Stretch) (top : ℕ) (within : stretch.level ≤ 3) (ends : is_end stretch top ≡ true) where
  free-each : (t : TableRecord)
      → StandsAs g stretch.rd stretch.level (entry_number stretch.level stretch.base / 512) t → IsFree (Some t) stretch.purpose
      → (k : ℕ) → k < entry_number stretch.level (top - stretch.base)
      → can_be_set stretch.purpose (entry_at (state_in g) stretch.rd stretch.level (entry_number stretch.level stretch.base + k)) ≡ true
  free-each t stands free k below =
      let n = entry_number stretch.level stretch.base + k in
      let low : n % 512 < 512 = omega arith in
      let e = entry_there t.entries (n % 512) (shaped.tables.whole stands.granule t stands.is_held) low in
      let here = subst (λ m. StandsAs g stretch.rd stretch.level m t) (sym (in_table stretch top k within ends below)) stands in
      ap (can_be_set stretch.purpose) (sym (entry-stands g shaped stretch.rd stretch.level n t e.0 here e.1))
      ∙ settable stretch.purpose t (n % 512) e.0 free e.1

  pub reached-free : (first : ℕ) (found : Option TableRecord) → first ≡ entry_number stretch.level stretch.base
      → IsTable g stretch.rd stretch.level (first / 512) found → IsFree found stretch.purpose → true ≡ is_reached (state_in g) stretch top
  reached-free first None is_first table free = absurd free
  reached-free first (Some t) is_first table free =
      reached-all (state_in g) stretch top (entry_number stretch.level (top - stretch.base)) ends refl
      (all_below-from
      (λ k. can_be_set stretch.purpose (entry_at (state_in g) stretch.rd stretch.level (entry_number stretch.level stretch.base + k)))
      (entry_number stretch.level (top - stretch.base))
      (free-each t (subst (λ n. StandsAs g stretch.rd stretch.level (n / 512) t) is_first table) free))
