use Rattle.verdict_laws.proofs.Looked.{nowhere_looked}
use Rattle.verdict_laws.proofs.begun.nowhere_after_a_look.Goals as goal

pub returns : goal.returns
returns c = λ history lines state new cpu number is_history reached grows looks.
    nowhere_looked history is_history lines state reached cpu number new grows looks
