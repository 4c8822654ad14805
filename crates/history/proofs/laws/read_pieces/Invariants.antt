use Rattle.std.proofs.Common.{◌≡◌, take, Ok}
use Rattle.std.specs.List.{flat_map}
use Rattle.history.proofs.laws.read_pieces.Given as goal

abbrev pub invariant-loop-piece : goal.invariant-loop-piece
invariant-loop-piece l = l.reader ≡ Ok (flat_map (λ piece. piece.now) (take l.piece-index l.pieces))
