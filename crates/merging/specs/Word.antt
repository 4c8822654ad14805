-- The words for moments.
use Rattle.std.specs.Prelude.{ℕ, List, codes}
use Rattle.merging.specs.declared.line.Word.{Word}
use Rattle.merging.specs.declared.line.Word.TheVariants as word

abbrev pub word_text : Word → List ℕ
word_text word.Call = codes "call"
word_text word.Commit = codes "commit"
word_text word.Return = codes "return"
