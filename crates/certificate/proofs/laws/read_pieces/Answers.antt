use Rattle.std.proofs.Common.{List, ℕ, suc, take, drop, subst, arith, Bor}
use Rattle.std.specs.List.{flat_map}
use Rattle.std.proofs.lemmas.Result.{err_from_is_err_and}
use Rattle.std.proofs.lemmas.List.{take_all}
use Rattle.rmi_codec.proofs.Pieces.{flat_map_at, flat_map-next}
use Rattle.certificate.specs.Faults.{IsFaultOf}
use Rattle.certificate.specs.Pieces.{HasRead}
use Rattle.certificate.proofs.PieceLemmas.{IsFaultOf-whole, IsCertificateText-whole}
use Rattle.certificate.proofs.laws.read_pieces.Goals as goal

abbrev bytes : Bor (List ℕ) → List ℕ
bytes piece = piece.now

pub read_lines-requires : goal.read_lines-requires
read_lines-requires c = (flat_map bytes (take c.loop-piece.piece-index c.args.pieces.now), c.loop-piece.invariant)

pub loop-piece-preserved : goal.loop-piece-preserved
loop-piece-preserved c =
    subst (λ text. HasRead c.read_lines.new.reader text c.read_lines.new.lines.lines)
    (flat_map-next bytes c.args.pieces.now c.loop-piece.piece-index _ c.loop-piece-test.true)
    (c.in_ok-read_lines.ensures.read (flat_map bytes (take c.loop-piece.piece-index c.args.pieces.now)) c.loop-piece.invariant)

pub returns-in_err-read_lines-clause-fault : goal.returns-in_err-read_lines-clause-fault
returns-in_err-read_lines-clause-fault c =
    let p = err_from_is_err_and c.from_residual.result c.from_residual.ensures.1 in
    let before = flat_map bytes (take c.loop-piece.piece-index c.args.pieces.now) in
    let behind = flat_map bytes (drop (suc c.loop-piece.piece-index) c.args.pieces.now) in
    rw (p.1, p.2)
    (subst (λ text. IsFaultOf text c.in_err-read_lines.field-0.0)
    (flat_map_at bytes c.args.pieces.now c.loop-piece.piece-index _ c.loop-piece-test.true)
    (c.in_err-read_lines.ensures.fault before behind c.loop-piece.invariant))

pub returns-in_err-finish-clause-fault : goal.returns-in_err-finish-clause-fault
returns-in_err-finish-clause-fault c =
    let p = err_from_is_err_and c.from_residual-in_err-finish.result c.from_residual-in_err-finish.ensures.1 in
    let whole =
    subst (λ pieces. HasRead c.loop-piece.reader (flat_map bytes pieces) c.loop-piece.lines.lines)
    (take_all c.loop-piece.piece-index c.args.pieces.now (omega (arith, c.loop-piece-test.false))) c.loop-piece.invariant in
    rw (p.1, p.2)
    (IsFaultOf-whole (flat_map bytes c.args.pieces.now)
    c.loop-piece.lines.lines c.loop-piece.reader c.in_err-finish.field-0.0 whole c.in_err-finish.ensures.bad)

pub returns-clause-found : goal.returns-clause-found
returns-clause-found c =
    let whole =
    subst (λ pieces. HasRead c.loop-piece.reader (flat_map bytes pieces) c.loop-piece.lines.lines)
    (take_all c.loop-piece.piece-index c.args.pieces.now (omega (arith, c.loop-piece-test.false))) c.loop-piece.invariant in
    IsCertificateText-whole (flat_map bytes c.args.pieces.now) c.loop-piece.lines.lines c.loop-piece.reader whole c.in_ok-finish.ensures.whole
