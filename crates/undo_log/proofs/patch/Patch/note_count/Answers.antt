use Rattle.undo_log.proofs.Noted.{count-stands, leads-more}
use Rattle.undo_log.specs.Patches.{standing_of}
use Rattle.undo_log.proofs.patch.Patch.note_count.Goals as goal

pub returns-clause-kept : goal.returns-clause-kept
returns-clause-kept c =
    let s = standing_of c.args.machine.now in
    leads-more s c.args.self.now (record { items = c.push.new.self }) _ c.in_ok-push.ensures.items
    (count-stands s c.args.rd c.counted-count.result c.counted-count.ensures)
