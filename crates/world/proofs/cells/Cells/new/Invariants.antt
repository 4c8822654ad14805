use Rattle.std.proofs.Common.{◌≡◌, ◌≤◌, vec_capacity, replicate}
use Rattle.granule_cells.specs.declared.cell.Cell.TheVariants.{Undelegated}
use Rattle.world.proofs.cells.Cells.new.Given as goal

abbrev pub invariant-loop-place : goal.invariant-loop-place
invariant-loop-place l = record {
  made : l.list.items ≡ replicate l._place Undelegated;
  room : l.granules ≤ vec_capacity l.list;
}
