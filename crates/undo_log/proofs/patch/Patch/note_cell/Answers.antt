use Rattle.undo_log.proofs.Common.{◌∙◌}
use Rattle.undo_log.proofs.Noted.{cell-stands, leads-more}
use Rattle.undo_log.specs.Patches.{standing_of}
use Rattle.undo_log.proofs.patch.Patch.note_cell.Goals as goal

pub returns-clause-kept : goal.returns-clause-kept
returns-clause-kept c =
    let s = standing_of c.args.machine.now in
    leads-more s c.args.self.now (record { items = c.push.new.self }) _ c.in_ok-push.ensures.items
    (cell-stands s c.in-Some.granule c.in_ok-cell.cell (c.in_ok-cell.ensures ∙ c.cell.ensures))
