use Rattle.world_laws.proofs.Refusals.{inside-is_local, outside-is_local}
use Rattle.world_laws.proofs.local_laws.misplaced_commands_are_local.Goals as goal

pub returns-clause-inside : goal.returns-clause-inside
returns-clause-inside c = inside-is_local

pub returns-clause-outside : goal.returns-clause-outside
returns-clause-outside c = outside-is_local
