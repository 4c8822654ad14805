use Rattle.std.proofs.Common.{◌≡◌, ◌≤◌, ◌++◌, map, drop, length, take, vec_capacity}
use Rattle.rmm_spec.specs.Text.{word}
use Rattle.rmi_codec.specs.Spaced.{spaced}
use Rattle.text_writers.proofs.words.push_words.Given as goal

abbrev pub invariant-loop-word : goal.invariant-loop-word
invariant-loop-word l = record {
  written : l.out.items ++ spaced (map word (drop l.word-index l.words)) ≡ l.initial.out.items ++ spaced (map word l.words);
  kept : take (length l.initial.out.items) l.out.items ≡ l.initial.out.items;
  capacity : vec_capacity l.initial.out ≤ vec_capacity l.out;
}
