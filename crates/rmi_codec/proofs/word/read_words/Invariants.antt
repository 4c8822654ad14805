use Rattle.std.proofs.Common.{◌≡◌, ◌++◌, ◌≤◌, map, take, length}
use Rattle.rmm_spec.specs.CommandText.{AreWords}
use Rattle.rmm_spec.specs.Text.{word}
use Rattle.rmi_codec.proofs.word.read_words.Given as goal

abbrev pub invariant-loop-parts : goal.invariant-loop-parts
invariant-loop-parts l = record {
  read : l.fn.parts ≡ map word (take l.count l.words) ++ l.parts;
  words : AreWords (take l.count l.words);
  within : l.count ≤ 10;
  counted : length l.words ≡ 10;
}

abbrev pub decreases-loop-parts : goal.decreases-loop-parts
decreases-loop-parts l = length l.parts
