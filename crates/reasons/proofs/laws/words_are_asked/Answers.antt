-- Of all conditions.
use Rattle.reasons.proofs.WordsAsked.{words-asked}
use Rattle.reasons.proofs.laws.words_are_asked.Goals as goal

pub returns : goal.returns
returns c = words-asked
