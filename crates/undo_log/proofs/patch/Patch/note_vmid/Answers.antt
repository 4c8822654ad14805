use Rattle.undo_log.proofs.Noted.{leads-more, vmid-stands}
use Rattle.undo_log.specs.Patches.{standing_of}
use Rattle.undo_log.proofs.patch.Patch.note_vmid.Goals as goal

pub returns-clause-kept : goal.returns-clause-kept
returns-clause-kept c =
    let s = standing_of c.args.machine.now in
    leads-more s c.args.self.now (record { items = c.push.new.self }) _ c.in_ok-push.ensures.items
    (vmid-stands s c.args.vmid c.realm_with-realm.result c.realm_with-realm.ensures)
