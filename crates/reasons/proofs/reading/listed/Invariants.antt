-- The words so far.
use Rattle.std.proofs.Common.{◌≡◌, take}
use Rattle.reasons.proofs.reading.listed.Given as goal

abbrev pub invariant-loop-i : goal.invariant-loop-i
invariant-loop-i l = l.read.items ≡ take l.i l.words
