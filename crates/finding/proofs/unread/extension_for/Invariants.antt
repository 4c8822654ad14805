-- The words so far.
use Rattle.std.proofs.Common.{◌≡◌, ◌∷◌, replicate}
use Rattle.finding.proofs.unread.extension_for.Given as goal

abbrev pub invariant-loop-value : goal.invariant-loop-value
invariant-loop-value l = l.words.items ≡ l.register ∷ 1 ∷ replicate l._value 0
