use Rattle.std.proofs.Common.{arith, ℕ, List, Bor, inl, inr, sym, subst}
use Rattle.std.proofs.lemmas.List.{take_all}
use Rattle.std.proofs.lemmas.Result.{IfOk-weaker}
use Rattle.std.specs.List.{flat_map}
use Rattle.rmm_spec.specs.HistoryText.{IsHistoryText}
use Rattle.checker.specs.Session.{HasJudged}
use Rattle.checker.proofs.Verdicts.{OnErr-always}
use Rattle.checker.proofs.laws.check_pieces.Goals as goal
use Rattle.rmi_codec.proofs.Pieces.{flat_map-next}

pub returns-in-Err-NoMemory-clause-refused : goal.returns-in-Err-NoMemory-clause-refused
returns-in-Err-NoMemory-clause-refused c = inl (rw c.in-Err-NoMemory.field-0-is at c.in-Err-NoMemory.ensures.fault)

pub returns-in_err-session-clause-refused : goal.returns-in_err-session-clause-refused
returns-in_err-session-clause-refused c =
    OnErr-always c.from_residual.result (inr (c.in-Ok.recorded.recorded, c.in-Ok.ensures.found))

pub returns-in_err-feed-clause-refused : goal.returns-in_err-feed-clause-refused
returns-in_err-feed-clause-refused c =
    OnErr-always c.from_residual-in_err-feed.result (inr (c.in-Ok.recorded.recorded, c.in-Ok.ensures.found))

pub loop-piece-preserved : goal.loop-piece-preserved
loop-piece-preserved c =
    let bytes = λ (piece : Bor (List ℕ)). piece.now in
    let so_far = c.loop-piece.invariant in
    let next = flat_map-next bytes c.args.certificate.now c.loop-piece.piece-index _ c.loop-piece-test.true in (
      subst (HasJudged c.feed.new.self) next (c.in_ok-feed.ensures.judged _ so_far.0),
      subst (IsHistoryText (flat_map bytes c.args.history.now)) (sym c.feed.ensures.history) so_far.1,
    )

pub returns-clause-judged : goal.returns-clause-judged
returns-clause-judged c =
    let bytes = λ (piece : Bor (List ℕ)). piece.now in
    let so_far = c.loop-piece.invariant in
    let all = take_all c.loop-piece.piece-index c.args.certificate.now (omega (arith, c.loop-piece-test.false)) in
    let given = subst (λ pieces. HasJudged c.loop-piece.session (flat_map bytes pieces)) all so_far.0 in
    IfOk-weaker c.finish.result _ _
    (λ v judged. judged (flat_map bytes c.args.history.now) (flat_map bytes c.args.certificate.now) so_far.1 given) c.finish.ensures.judged
