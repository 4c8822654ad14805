use Rattle.undo_log.proofs.Common.{None, slice_index_or, ℕ}
use Rattle.std.proofs.Common.{below_more, arith}
use Rattle.std.specs.Prelude.{IfSome, IsTrue}
use Rattle.undo_log.proofs.Noted.{cells-listed, kept-some, leads-on}
use Rattle.undo_log.specs.Noted.{has_cell}
use Rattle.undo_log.specs.Patches.{standing_of}
use Rattle.undo_log.proofs.patch.Patch.note_cells.Goals as goal

pub loop-granule-preserved : goal.loop-granule-preserved
loop-granule-preserved c =
    let s = standing_of c.args.machine.now in
    let found = c.in_ok-note_cell.ensures in
    let log = c.loop-granule.self in
    let new = c.note_cell.new.self in
    record {
      kept = leads-on s c.args.self.now log new c.loop-granule.invariant.kept found.kept;
      cells = below_more (λ (k : ℕ). IfSome (slice_index_or c.args.granules.now k None) (λ g. IsTrue (has_cell g new.items.items))) _
          (λ k below. kept-some s log new found.kept (slice_index_or c.args.granules.now k None) (c.loop-granule.invariant.cells k below))
          found.cell;
    }

pub returns-clause-cells : goal.returns-clause-cells
returns-clause-cells c =
    cells-listed c.loop-granule.self.items.items c.args.granules.now
    (λ k below. c.loop-granule.invariant.cells k (omega (arith, below, c.loop-granule-test.false)))
