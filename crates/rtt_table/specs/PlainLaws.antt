-- Tables by the number of their granule: each is found at its granule's address.
use Rattle.std.proofs.Common.{◌≡◌, ℕ, zero, suc, ◌+◌, ◌*◌, ◌<◌, false, ◌==◌, List, [], ◌∷◌, length, Option, Some, None, refl, ap, ◌∙◌, arith, eq-eqb}
use Rattle.std.specs.List.{slice_get, slice_index_or}
use Rattle.std.proofs.lemmas.Bool.Decides.{nat_tests}
use Rattle.rmm_spec.specs.Table.{TableRecord}
use Rattle.rmm_spec.specs.TableCells.{TableCell, table_in, ArePlaced}
use Rattle.rtt_table.specs.Plain.{cells_from, table_or_none}

-- the first cell is found at its granule
table_in-head : (c : TableCell) (cells : List TableCell) (address : ℕ) → c.granule ≡ address → table_in (c ∷ cells) address ≡ Some c.table
unfolding table_in
table_in-head c cells address here = rw (eq-eqb c.granule address here) refl

-- at another granule the first cell is passed over
pub table_in-tail : (c : TableCell) (cells : List TableCell) (address : ℕ)
    → (c.granule ≡ address → ⊥) → table_in (c ∷ cells) address ≡ table_in cells address
unfolding table_in
table_in-tail c cells address other = let fails : (c.granule == address) ≡ false = grind (arith, nat_tests) in rw fails refl

-- no cells have no table
pub table_in-nil : (address : ℕ) → table_in [] address ≡ None
unfolding table_in
table_in-nil address = refl

-- an address that is no granule's has no table
pub table_in-no_granule : (k : ℕ) (tables : List (Option TableRecord)) (address : ℕ)
    → ((i : ℕ) → i < length tables → address ≡ (k + i) * 4096 → ⊥) → table_in (cells_from k tables) address ≡ None
unfolding cells_from
table_in-no_granule k [] address other = table_in-nil address
table_in-no_granule k (None ∷ tables) address other =
    table_in-no_granule (suc k) tables address (λ i within here. other (suc i) (omega arith) (omega arith))
table_in-no_granule k (Some table ∷ tables) address other =
    table_in-tail (record { granule = k * 4096; table = table }) (cells_from (suc k) tables) address (λ here. other 0 (omega arith) (omega arith))
    ∙ table_in-no_granule (suc k) tables address (λ i within here. other (suc i) (omega arith) (omega arith))

-- the table of the granule with the number k + i
pub table_in-cells_from : (k : ℕ) (tables : List (Option TableRecord)) (i address : ℕ) → address ≡ (k + i) * 4096
    → table_in (cells_from k tables) address ≡ table_or_none (slice_get tables i)
unfolding cells_from
table_in-cells_from k [] i address here = table_in-nil address
table_in-cells_from k (None ∷ tables) zero address here = table_in-no_granule (suc k) tables address (λ i within there. omega arith)
table_in-cells_from k (None ∷ tables) (suc i) address here = table_in-cells_from (suc k) tables i address (omega arith)
table_in-cells_from k (Some table ∷ tables) zero address here =
    table_in-head (record { granule = k * 4096; table = table }) (cells_from (suc k) tables) address (omega arith)
table_in-cells_from k (Some table ∷ tables) (suc i) address here =
    table_in-tail (record { granule = k * 4096; table = table }) (cells_from (suc k) tables) address (λ there. omega arith)
    ∙ table_in-cells_from (suc k) tables i address (omega arith)

-- each table is that of a granule
cells_from-granule : (k : ℕ) (tables : List (Option TableRecord)) (c : TableCell) (j : ℕ)
    → j < length (cells_from k tables) → slice_index_or (cells_from k tables) j c ≡ c
    → (i : ℕ) × (slice_get tables i ≡ Some (Some c.table)) × (c.granule ≡ (k + i) * 4096)
unfolding cells_from
cells_from-granule k [] c j within at = absurd (omega arith)
cells_from-granule k (None ∷ tables) c j within at =
    let later = cells_from-granule (suc k) tables c j within at in (suc later.0, later.1, omega (arith, later.2))
cells_from-granule k (Some table ∷ tables) c zero within at =
    (0, ap (λ (x : TableCell). Some (Some x.table)) at, omega (arith, ap (λ (x : TableCell). x.granule) at))
cells_from-granule k (Some table ∷ tables) c (suc j) within at =
    let later = cells_from-granule (suc k) tables c j (omega arith) at in (suc later.0, later.1, omega (arith, later.2))

-- no granule has two tables
pub cells_from-are_placed : (k : ℕ) (tables : List (Option TableRecord)) → ArePlaced (cells_from k tables)
cells_from-are_placed k tables c held =
    let granule = cells_from-granule k tables c held.0 held.1 held.2 in
    table_in-cells_from k tables granule.0 c.granule granule.2 ∙ ap (λ (x : Option (Option TableRecord)). table_or_none x) granule.1
