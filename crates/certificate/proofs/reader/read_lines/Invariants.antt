use Rattle.std.proofs.Common.{ℕ, List, ◌++◌, length}
use Rattle.certificate.specs.Pieces.{HasRead}
use Rattle.certificate.proofs.PieceLemmas.{IsReadUpTo}
use Rattle.certificate.proofs.reader.read_lines.Given as goal

-- whatever was read before, the piece is read up to what is left
abbrev pub invariant-loop-rest : goal.invariant-loop-rest
invariant-loop-rest l = (text : List ℕ) → HasRead l.fn.reader text l.fn.lines.lines → IsReadUpTo (text ++ l.piece) l.rest l.lines.lines l.reader

abbrev pub decreases-loop-rest : goal.decreases-loop-rest
decreases-loop-rest l = length l.rest
