use Rattle.merging.proofs.SpellingLaws.{is_commit, no_commit}
use Rattle.merging.proofs.line.commit_from.Goals as goal

pub returns-in-Ok-clause-found : goal.returns-in-Ok-clause-found
returns-in-Ok-clause-found c = is_commit _ _ c.in-Ok.ensures.found.0 c.in-Ok.ensures.found.1

pub returns-in-Err-clause-none : goal.returns-in-Err-clause-none
returns-in-Err-clause-none c = no_commit _ (λ one is spelled. c.in-Err.ensures.only one is spelled)
