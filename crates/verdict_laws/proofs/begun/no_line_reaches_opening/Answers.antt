use Rattle.verdict_laws.proofs.Growth.{Reaches-nil}
use Rattle.verdict_laws.proofs.begun.no_line_reaches_opening.Goals as goal

pub returns : goal.returns
returns c = Reaches-nil
