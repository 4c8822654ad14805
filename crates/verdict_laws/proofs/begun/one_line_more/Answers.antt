use Rattle.verdict_laws.proofs.Growth.{Reaches-push}
use Rattle.verdict_laws.proofs.begun.one_line_more.Goals as goal

pub returns : goal.returns
returns c = λ history lines old line new is_history reached grows. Reaches-push history is_history lines old reached line new grows
