use Rattle.std.proofs.Common.{List, ℕ, suc, drop, subst, Bor}
use Rattle.std.specs.List.{flat_map}
use Rattle.std.proofs.lemmas.Result.{err_from_is_err_and}
use Rattle.rmi_codec.proofs.Pieces.{flat_map_at}
use Rattle.history.specs.Faults.{IsFaultOf}
use Rattle.history.proofs.laws.read_pieces.Goals as goal

pub returns-in_err-feed-clause-fault : goal.returns-in_err-feed-clause-fault
returns-in_err-feed-clause-fault c =
    let p = err_from_is_err_and c.from_residual.result c.from_residual.ensures.1 in
    let each = rw c.loop-piece.invariant at c.in_err-feed.ensures.fault in
    let bytes = λ (piece : Bor (List ℕ)). piece.now in
    let behind = drop (suc c.loop-piece.piece-index) c.args.pieces.now in
    rw (p.1, p.2)
    (subst (λ text. IsFaultOf text c.in_err-feed.field-0.0)
    (flat_map_at bytes c.args.pieces.now c.loop-piece.piece-index _ c.loop-piece-test.true) (each (flat_map bytes behind)))
