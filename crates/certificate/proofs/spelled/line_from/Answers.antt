use Rattle.certificate.proofs.SpellingLemmas.{IsNoLine-both}
use Rattle.certificate.proofs.spelled.line_from.Goals as goal

pub returns-clause-none : goal.returns-clause-none
returns-clause-none c = IsNoLine-both _ c.claimed_from.result c.in_default.ensures.none c.claimed_from.ensures.none
