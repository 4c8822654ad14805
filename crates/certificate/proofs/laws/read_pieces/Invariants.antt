use Rattle.std.proofs.Common.{take}
use Rattle.std.specs.List.{flat_map}
use Rattle.certificate.specs.Pieces.{HasRead}
use Rattle.certificate.proofs.laws.read_pieces.Given as goal

abbrev pub invariant-loop-piece : goal.invariant-loop-piece
invariant-loop-piece l = HasRead l.reader (flat_map (λ piece. piece.now) (take l.piece-index l.pieces)) l.lines.lines
