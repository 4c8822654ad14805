use Rattle.merging.proofs.SpellingLaws.{no_part, no_word}
use Rattle.merging.proofs.line.moment_from.Goals as goal

pub returns-in_default-clause-none : goal.returns-in_default-clause-none
returns-in_default-clause-none c = no_part _ c.in_default.ensures.over

pub returns-in_default-word_from-clause-none : goal.returns-in_default-word_from-clause-none
returns-in_default-word_from-clause-none c = no_word _ _ _ c.in-Some.ensures.next c.in_default-word_from.ensures.none
