-- Where a CPU is, in the flat state of a well-shaped whole: inside a REC just where its place says so.
use Rattle.std.proofs.Common.{◌≡◌, ℕ, zero, suc, ◌*◌, ◌/◌, ◌%◌, ◌<◌, Bool, true, false, ◌||◌, ◌==◌, Option, Some, None, refl, sym, ap, ◌∙◌, arith, eqb-true, eq-eqb, ltb-true}
use Rattle.std.specs.Prelude.{nat_lt}
use Rattle.std.proofs.lemmas.Bool.{false≢true, and_parts, false_from_ne_true, or_left, or_right}
use Rattle.std.proofs.lemmas.Option.{none-some}
use Rattle.rmm_spec.specs.HistoryText.{Config}
use Rattle.rmm_spec.specs.State.{RecRecord}
use Rattle.rmm_spec.specs.Lookup.{any_below, runs_on, is_cpu, is_inside, is_granule}
use Rattle.rmm_spec.specs.Cell.{Cell, Undelegated, recs_of, rec_in}
use Rattle.rmm_spec.specs.Flat.{flat_state}
use Rattle.rmm_spec.specs.Shape.{Side, CpuPlace, Outside, Inside, IsWellShaped}

-- ---- searches

-- what is found below a number passes
pub passing_below : (n : ℕ) (p : ℕ → Bool) → any_below n p ≡ true → (k : ℕ) × (k < n) × (p k ≡ true)
passing_below zero p any = absurd (false≢true any)
passing_below (suc n) p any = by (p n) refl (passing_below n p) any
  where
    by : (b : Bool) → p n ≡ b → (any_below n p ≡ true → (k : ℕ) × (k < n) × (p k ≡ true)) → (b || any_below n p) ≡ true
        → (k : ℕ) × (k < suc n) × (p k ≡ true)
    by true is rest found = (n, omega arith, is)
    by false is rest found = let below = rest found in (below.0, omega (arith, below.1), below.2)

pub any_below-from : (n : ℕ) (p : ℕ → Bool) (k : ℕ) → k < n → p k ≡ true → any_below n p ≡ true
any_below-from zero p k within is = absurd (omega arith)
any_below-from (suc n) p k within is = by (k == n) refl (λ below. any_below-from n p k below is)
  where
    by : (b : Bool) → (k == n) ≡ b → (k < n → any_below n p ≡ true) → (p n || any_below n p) ≡ true
    by true same rest = or_left (p n) (any_below n p) (ap p (sym (eqb-true k n same)) ∙ is)
    by false apart rest =
        let differ : k ≡ n → ⊥ = λ same. false≢true (sym apart ∙ eq-eqb k n same) in
        or_right (p n) (any_below n p) (rest (omega (arith, differ, within)))

-- ---- places

-- what runs on a CPU is a REC with that CPU
pub running : (cpu : ℕ) (o : Option RecRecord) → runs_on cpu o ≡ true → (it : RecRecord) × (o ≡ Some it) × (it.cpu ≡ Some cpu)
running cpu None runs = absurd (false≢true runs)
running cpu (Some it) runs = (it, refl, by it.cpu runs)
  where
    by : (o : Option ℕ) → is_cpu cpu o ≡ true → o ≡ Some cpu
    by None is = absurd (false≢true is)
    by (Some other) is = ap Some (eqb-true other cpu is)

pub runs_on-running : (cpu : ℕ) (o : Option RecRecord) (it : RecRecord) → o ≡ Some it → it.cpu ≡ Some cpu → runs_on cpu o ≡ true
runs_on-running cpu o it is on = ap (runs_on cpu) is ∙ (ap (is_cpu cpu) on ∙ eq-eqb cpu cpu refl)

pub outside≢inside : (rec rd : ℕ) → Outside ≡ Inside rec rd → ⊥
outside≢inside rec rd same = cc

-- a CPU that is outside is inside of no REC
pub is_inside-outside : (config : Config) (side : Side) (places : ℕ → CpuPlace) (cells : ℕ → Cell) → IsWellShaped config side places cells
    → (cpu : ℕ) → places cpu ≡ Outside → is_inside (flat_state config cells) cpu ≡ false
unfolding is_inside flat_state
is_inside-outside config side places cells shaped cpu place =
    false_from_ne_true (any_below config.granules (λ k. runs_on cpu (recs_of cells (k * 4096)))) (λ any.
    let found = passing_below config.granules (λ k. runs_on cpu (recs_of cells (k * 4096))) any in
    let it = running cpu (recs_of cells (found.0 * 4096)) found.2 in
    let inside : places cpu ≡ Inside (found.0 * 4096) it.0.owner =
    (shaped.recs.inside cpu (found.0 * 4096) it.0.owner).1 (record { it = it.0; is_rec = it.1; is_owner = refl; is_on = it.2 }) in
    outside≢inside (found.0 * 4096) it.0.owner (sym place ∙ inside))

-- a granule has a number
granule_number : (granules address : ℕ) → is_granule granules address ≡ true → (k : ℕ) × (k < granules) × (k * 4096 ≡ address)
unfolding is_granule
granule_number granules address is =
    let parts = and_parts (address % 4096 == 0) (nat_lt address (granules * 4096)) is in
    let whole : address % 4096 ≡ 0 = eqb-true (address % 4096) 0 parts.0 in
    let below : address < granules * 4096 = ltb-true address (granules * 4096) parts.1 in
    (address / 4096, omega arith, omega arith)

-- what isn't UNDELEGATED is a granule
pub cell_is_granule : (config : Config) (side : Side) (places : ℕ → CpuPlace) (cells : ℕ → Cell) → IsWellShaped config side places cells
    → (g : ℕ) → (cells g ≡ Undelegated → ⊥) → is_granule config.granules g ≡ true
cell_is_granule config side places cells shaped g delegated = by (is_granule config.granules g) refl
  where
    by : (b : Bool) → is_granule config.granules g ≡ b → is_granule config.granules g ≡ true
    by true granule = granule
    by false outside = absurd (delegated (shaped.outside.undelegated g outside))

-- and has a number
pub cell_granule : (config : Config) (side : Side) (places : ℕ → CpuPlace) (cells : ℕ → Cell) → IsWellShaped config side places cells
    → (g : ℕ) → (cells g ≡ Undelegated → ⊥) → (k : ℕ) × (k < config.granules) × (k * 4096 ≡ g)
cell_granule config side places cells shaped g delegated =
    granule_number config.granules g (cell_is_granule config side places cells shaped g delegated)

-- so has what holds a REC
pub rec_granule : (config : Config) (side : Side) (places : ℕ → CpuPlace) (cells : ℕ → Cell) → IsWellShaped config side places cells
    → (g : ℕ) (it : RecRecord) → recs_of cells g ≡ Some it → (k : ℕ) × (k < config.granules) × (k * 4096 ≡ g)
rec_granule config side places cells shaped g it is =
    cell_granule config side places cells shaped g (λ undelegated. none-some it (sym (ap rec_in undelegated) ∙ is))

-- a CPU that is inside of a REC is inside
pub is_inside-inside : (config : Config) (side : Side) (places : ℕ → CpuPlace) (cells : ℕ → Cell) → IsWellShaped config side places cells
    → (cpu rec rd : ℕ) → places cpu ≡ Inside rec rd → is_inside (flat_state config cells) cpu ≡ true
unfolding is_inside flat_state
is_inside-inside config side places cells shaped cpu rec rd place =
    let runs = (shaped.recs.inside cpu rec rd).0 place in
    let at = rec_granule config side places cells shaped rec runs.it runs.is_rec in
    any_below-from config.granules (λ k. runs_on cpu (recs_of cells (k * 4096))) at.0 at.1
    (runs_on-running cpu (recs_of cells (at.0 * 4096)) runs.it (ap (recs_of cells) at.2 ∙ runs.is_rec) runs.is_on)
