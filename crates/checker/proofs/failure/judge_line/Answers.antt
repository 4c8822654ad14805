use Rattle.std.proofs.Common.{arith, length, sym, ◌∙◌}
use Rattle.certificate.specs.LineRef.{line_seen}
use Rattle.spec_machine.specs.View.{state_of}
use Rattle.checker.proofs.Judging.{MatchOption-at_not_some}
use Rattle.checker.proofs.Offers.{AreOffersAt-next}
use Rattle.checker.proofs.SessionLaws.{AreJudged-failed, FailsAt-last}
use Rattle.checker.proofs.failure.judge_line.Goals as goal

pub returns-then-is_some-clause-judged : goal.returns-then-is_some-clause-judged
returns-then-is_some-clause-judged c = λ lines counted judged.
    AreJudged-failed c.args.replay.now c.args.failed.now c.args.history.now.recorded lines
    (line_seen c.args.line) (sym c.is_some.ensures ∙ c.if-is_some.true) judged

pub returns-in-Some-clause-judged : goal.returns-in-Some-clause-judged
returns-in-Some-clause-judged c = λ lines counted judged.
    let so_far = MatchOption-at_not_some c.args.failed.now _ _ (sym c.is_some.ensures ∙ c.if-is_some.false) judged in
    let fails = rw c.in-Some.is at c.in_ok-reason.ensures.judged in (
      FailsAt-last c.args.history.now.recorded lines (line_seen c.args.line) c.args.step c.in-Some.reason
          (state_of c.args.replay.now.machine) counted so_far.0.passes
          (fails lines so_far.0),
      AreOffersAt-next c.in-Some.reason (length lines) c.args.step _ _ counted
          (omega arith) so_far.1 (rw c.in-Some.is at c.in_ok-reason.ensures.offers),
    )
