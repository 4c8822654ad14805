-- By what they are read from.
use Rattle.explain.proofs.WordsRead.{words_same}
use Rattle.explain.proofs.laws.words_are_read.Goals as goal

pub returns : goal.returns
returns c = words_same
