use Rattle.std.proofs.Common.{ℕ, List, ◌++◌, take}
use Rattle.rmm_spec.specs.Measure.{words_bytes}
use Rattle.realm_desc.proofs.feed.feed_each.Given as goal

abbrev pub invariant-loop-word : goal.invariant-loop-word
invariant-loop-word g l = (m : List ℕ) → g.D.Digest.holds l.fn.hasher m → g.D.Digest.holds l.hasher (m ++ words_bytes (take l.word-index l.words))
