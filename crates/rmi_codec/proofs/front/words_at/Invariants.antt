use Rattle.std.proofs.Common.{◌≡◌, ◌++◌, ◌<◌, ◌≤◌, ◌-◌, map, take, length}
use Rattle.rmm_spec.specs.CommandText.{AreWords}
use Rattle.rmm_spec.specs.Text.{word}
use Rattle.rmi_codec.specs.Spaced.{spaced}
use Rattle.rmi_codec.proofs.front.words_at.Given as goal

abbrev pub invariant-loop-end : goal.invariant-loop-end
invariant-loop-end l = record {
  read : take l.end l.text ≡ take l.at l.text ++ spaced (map word (take l.count l.words));
  words : AreWords (take l.count l.words);
  inside : l.end < length l.text;
  on : l.at ≤ l.end;
  within : l.count ≤ 10;
  counted : length l.words ≡ 10;
}

abbrev pub decreases-loop-end : goal.decreases-loop-end
decreases-loop-end l = length l.text - l.end
