use Rattle.merging.proofs.SpellingLaws.{is_call, no_call}
use Rattle.merging.proofs.line.call_from.Goals as goal

pub returns-in-Ok-clause-found : goal.returns-in-Ok-clause-found
returns-in-Ok-clause-found c = is_call _ _ c.in-Ok.ensures.found.0 c.in-Ok.ensures.found.1

pub returns-in-Err-clause-none : goal.returns-in-Err-clause-none
returns-in-Err-clause-none c = no_call _ (λ one is spelled. c.in-Err.ensures.only one is spelled)
