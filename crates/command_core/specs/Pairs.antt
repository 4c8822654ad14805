-- Granules beside their cells, as held cells.
use Rattle.std.proofs.Common.{◌≡◌, ℕ, List, [], ◌∷◌, length, refl, sym, ap, subst, arith}
use Rattle.std.specs.Prelude.{◌==◌, not, IsTrue}
use Rattle.std.specs.List.{filter}
use Rattle.rmm_spec.specs.Local.{HeldCell, granules_held}
use Rattle.world_laws.specs.Replaced.{held_at}
use Rattle.command_core.specs.Seen.{cell_of, are_distinct}
use Rattle.granule_cells.specs.declared.cell.Cell.{Cell}
use Rattle.command_core.specs.declared.held_pairs.HeldPairs.{HeldPairs}

-- each granule with its cell
abbrev pub paired : List ℕ → List Cell → List HeldCell
paired [] cells = []
paired (g ∷ granules) [] = []
paired (g ∷ granules) (c ∷ cells) = held_at g (cell_of c) ∷ paired granules cells

unfoldable pub pair_cells : HeldPairs → List HeldCell
pair_cells pairs = paired pairs.granules.items pairs.cells.items

-- what is held but at one granule, in the same order
abbrev pub without_cell : ℕ → List HeldCell → List HeldCell
without_cell granule held = filter (λ (h : HeldCell). not (h.granule == granule)) held

pub granules_held-paired : (granules : List ℕ) (cells : List Cell) → length cells ≡ length granules → granules_held (paired granules cells) ≡ granules
granules_held-paired [] cells same = refl
granules_held-paired (g ∷ granules) [] same = absurd (omega (arith, same))
granules_held-paired (g ∷ granules) (c ∷ cells) same = ap (λ rest. g ∷ rest) (granules_held-paired granules cells (omega (arith, same)))

pub length-paired : (granules : List ℕ) (cells : List Cell) → length cells ≡ length granules → length (paired granules cells) ≡ length granules
length-paired [] cells same = refl
length-paired (g ∷ granules) [] same = absurd (omega (arith, same))
length-paired (g ∷ granules) (c ∷ cells) same = omega (arith, length-paired granules cells (omega (arith, same)))

pub pairs-distinct : (p : HeldPairs) → IsTrue (are_distinct (granules_held (pair_cells p)))
unfolding pair_cells
pairs-distinct p =
    subst (λ granules. IsTrue (are_distinct granules)) (sym (granules_held-paired p.granules.items p.cells.items p.same_count)) p.distinct
