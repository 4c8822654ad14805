-- The granules so far have their cells in the log.
use Rattle.undo_log.proofs.Common.{None, slice_index_or, ℕ, ◌<◌}
use Rattle.std.specs.Prelude.{IfSome, IsTrue}
use Rattle.undo_log.specs.Noted.{LeadsAsBefore, has_cell}
use Rattle.undo_log.specs.Patches.{standing_of}
use Rattle.undo_log.proofs.patch.Patch.note_cells.Given as goal

abbrev pub invariant-loop-granule : goal.invariant-loop-granule
invariant-loop-granule l = record {
  kept : LeadsAsBefore (standing_of l.machine) l.initial.self l.self;
  cells : (k : ℕ) → k < l.granule-index → IfSome (slice_index_or l.granules k None) (λ g. IsTrue (has_cell g l.self.items.items));
}
