use Rattle.undo_log.proofs.Common.{subst, List, ℕ}
use Rattle.granule_cells.specs.Changes.{granules_changed}
use Rattle.undo_log.proofs.Noted.{kept-cells, leads-on}
use Rattle.undo_log.specs.Noted.{HasCells}
use Rattle.undo_log.specs.Patches.{standing_of}
use Rattle.undo_log.proofs.patch.Patch.note.Goals as goal

pub returns : goal.returns
returns c =
    let s = standing_of c.args.machine.now in
    let one = c.note_cells.new.self in
    let two = c.note_beside.new.self in
    let cells = c.in_ok-note_cells.ensures in
    let beside = c.in_ok-note_beside.ensures in
    record {
      kept = leads-on s c.args.self.now one two cells.kept beside.kept;
      cells = kept-cells s one two beside.kept (granules_changed c.args.at c.args.change.now)
          (subst (λ (granules : List ℕ). HasCells granules one.items.items) c.granules_changed.ensures cells.cells);
      beside = beside.beside;
    }
