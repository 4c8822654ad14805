use Rattle.undo_log.proofs.Noted.{leads-more, places-stand}
use Rattle.undo_log.specs.Patches.{standing_of}
use Rattle.undo_log.proofs.patch.Patch.note_places.Goals as goal

pub returns-clause-kept : goal.returns-clause-kept
returns-clause-kept c =
    let s = standing_of c.args.machine.now in
    leads-more s c.args.self.now (record { items = c.push.new.self }) _ c.in_ok-push.ensures.items
    (places-stand s c.in_ok-places.places c.in_ok-places.ensures)
