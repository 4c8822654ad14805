use Rattle.world.proofs.Common.{◌≡◌, Contains, cells_at, cells_of, take, vec_len, ℕ}
use Rattle.command_core.specs.Pairs.{pair_cells}
use Rattle.world.proofs.lent.lend.Given as goal

abbrev pub invariant-loop-pa : goal.invariant-loop-pa
invariant-loop-pa l = record {
  size : vec_len l.cells.list ≡ vec_len l.fn.cells.list;
  lent : pair_cells l.lent ≡ cells_at (cells_of l.fn.cells) (take l.pa-index l.granules);
  kept : (x : ℕ) → (Contains (take l.pa-index l.granules) x → ⊥) → cells_of l.cells x ≡ cells_of l.fn.cells x;
}
