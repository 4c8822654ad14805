use Rattle.std.proofs.Common.{◌≡◌, ◌+◌, ◌≤◌, ◌++◌, length, take, vec_len, vec_capacity}
use Rattle.merging.proofs.slot.append.Given as goal

abbrev pub invariant-loop-word : goal.invariant-loop-word
invariant-loop-word l = record {
  so_far : l.words.items ≡ l.fn.words.items ++ take l.word-index l.more;
  room : vec_len l.words + length l.more ≤ l.word-index + vec_capacity l.words;
}
