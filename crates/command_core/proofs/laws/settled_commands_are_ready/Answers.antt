use Rattle.command_core.proofs.Ready.{settled-ready}
use Rattle.command_core.proofs.laws.settled_commands_are_ready.Goals as goal

pub returns : goal.returns
returns c = settled-ready
