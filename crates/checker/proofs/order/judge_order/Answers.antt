-- The first line that fails, one more line that passes, and the end.
use Rattle.std.proofs.Common.{take, arith, refl, sym, subst}
use Rattle.std.proofs.lemmas.Result.{err_from_is_err_and}
use Rattle.certificate.specs.LineRef.{line_seen}
use Rattle.spec_machine.specs.View.{state_of}
use Rattle.rmm_spec.specs.FirstFault.{Passes}
use Rattle.checker.specs.Replay.{RefusesMemory}
use Rattle.checker.proofs.Faults.{FirstFault-from_FailsBy, Progress-next, Progress-whole}
use Rattle.checker.proofs.order.judge_order.Goals as goal

pub returns-in-Some-clause-judged : goal.returns-in-Some-clause-judged
returns-in-Some-clause-judged c =
    let so_far = c.loop-i.invariant in
    let fails = rw c.in-Some.is at c.in_ok-reason.ensures.judged in
    FirstFault-from_FailsBy c.in-Some.reason c.args.history.now.recorded c.args.certificate.now.lines c.loop-i.i (line_seen c.line.result)
    (state_of c.loop-i.replay.machine) c.line.ensures so_far.passes (fails (take c.loop-i.i c.args.certificate.now.lines) so_far)

pub returns-in_err-reason-clause-refused : goal.returns-in_err-reason-clause-refused
returns-in_err-reason-clause-refused c =
    let p = err_from_is_err_and c.from_residual.result c.from_residual.ensures.1 in
    let refuses : RefusesMemory c.args.history.now.recorded c.args.certificate.now.lines = record {
      place = c.loop-i.i;
      line = line_seen c.line.result;
      is_line = c.line.ensures;
      replay = c.loop-i.replay;
      before = c.loop-i.invariant;
      refused = c.in_err-reason.ensures.refused;
    } in
    rw p.1 refuses

pub loop-i-preserved : goal.loop-i-preserved
loop-i-preserved c =
    let passes = rw c.in_default.is at c.in_ok-reason.ensures.judged in
    Progress-next c.args.history.now.recorded c.args.certificate.now.lines c.loop-i.i (line_seen c.line.result) _ _ _ c.line.ensures
    (passes (take c.loop-i.i c.args.certificate.now.lines) c.loop-i.invariant)

pub returns-clause-judged : goal.returns-clause-judged
returns-clause-judged c =
    let lines = c.args.certificate.now.lines in
    let all = Progress-whole c.args.history.now.recorded lines c.loop-i.i _ _ _ (omega (arith, c.len-i-end.ensures.count)) c.loop-i.invariant in
    c.verdict_at_end.ensures.judged lines c.len-lines.ensures.count all

pub returns-in-Some-clause-left : goal.returns-in-Some-clause-left
returns-in-Some-clause-left c =
    let kept = rw c.in-Some.is at c.in_ok-reason.ensures.kept in
    (c.loop-i.i, refl, subst (Passes c.args.history.now.recorded (take c.loop-i.i c.args.certificate.now.lines)) (sym kept) c.loop-i.invariant.passes)

pub returns-clause-left : goal.returns-clause-left
returns-clause-left c =
    let lines = c.args.certificate.now.lines in
    let all = Progress-whole c.args.history.now.recorded lines c.loop-i.i _ _ _ (omega (arith, c.len-i-end.ensures.count)) c.loop-i.invariant in
    c.verdict_at_end.ensures.left lines c.len-lines.ensures.count all
