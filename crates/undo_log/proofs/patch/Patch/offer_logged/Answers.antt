use Rattle.undo_log.proofs.Common.{◌∙◌, command_seen, sym}
use Rattle.undo_log.proofs.patch.Patch.offer_logged.Goals as goal

pub take_logged-requires : goal.take_logged-requires
take_logged-requires c = (c.args.cpu, command_seen c.args.command, sym c.in-Ok.is ∙ c.outcome_seen.ensures)
