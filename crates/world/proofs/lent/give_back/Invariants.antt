use Rattle.world.proofs.Common.{◌≡◌, cells_of, drop, length, put_all, vec_len}
use Rattle.command_core.specs.Pairs.{paired, pair_cells}
use Rattle.world.proofs.lent.give_back.Given as goal

abbrev pub invariant-loop-place : goal.invariant-loop-place
invariant-loop-place l = record {
  size : vec_len l.cells.list ≡ vec_len l.fn.cells.list;
  same_count : length l.left.items ≡ length l.pa-items;
  left : put_all (cells_of l.cells) (paired (drop l.place l.pa-items) (drop l.place l.left.items))
      ≡ put_all (cells_of l.fn.cells) (pair_cells l.fn.lent);
}
