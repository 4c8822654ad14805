use Rattle.rmm_laws.proofs.Accepted.{done-keeps_shape, reached-keeps_shape}
use Rattle.rmm_laws.proofs.shape_laws.accepted_commands_keep_shape.Goals as goal

pub returns-clause-done : goal.returns-clause-done
returns-clause-done c = done-keeps_shape

pub returns-clause-reached : goal.returns-clause-reached
returns-clause-reached c = reached-keeps_shape
