-- By the rows of each command.
use Rattle.reasons.proofs.Rows.{refused_for-outcome}
use Rattle.reasons.proofs.laws.conditions_decide.Goals as goal

pub returns : goal.returns
returns c = refused_for-outcome
