use Rattle.merging.proofs.SpellingLaws.{is_return, no_return}
use Rattle.merging.proofs.line.return_from.Goals as goal

pub returns-in-Ok-clause-found : goal.returns-in-Ok-clause-found
returns-in-Ok-clause-found c = is_return _ _ c.in-Ok.ensures.found.0 c.in-Ok.ensures.found.1

pub returns-in-Err-clause-none : goal.returns-in-Err-clause-none
returns-in-Err-clause-none c = no_return _ (λ one is spelled. c.in-Err.ensures.only one is spelled)
