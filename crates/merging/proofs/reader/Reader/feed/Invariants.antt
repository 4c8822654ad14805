use Rattle.std.proofs.Common.{◌≡◌, ℕ, List, ◌++◌, length}
use Rattle.merging.specs.Pieces.{HasRead}
use Rattle.merging.proofs.reader.Reader.feed.Given as goal

abbrev pub invariant-loop-rest : goal.invariant-loop-rest
invariant-loop-rest l = (text : List ℕ) → HasRead l.fn.self text → (now : List ℕ) × (HasRead l.self now × (now ++ l.rest ≡ text ++ l.piece))

abbrev pub decreases-loop-rest : goal.decreases-loop-rest
decreases-loop-rest l = length l.rest
