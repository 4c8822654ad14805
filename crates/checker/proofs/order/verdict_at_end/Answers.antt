-- The end of lines that all pass.
use Rattle.std.proofs.Common.{List, ◌+◌, length, sym, ap, subst}
use Rattle.std.proofs.Math.Seq.{take-length}
use Rattle.rmm_spec.specs.declared.line.Line.{Line}
use Rattle.rmm_spec.specs.FirstFault.{Passes}
use Rattle.rmm_spec.specs.Judgement.{Accepts}
use Rattle.spec_machine.specs.View.{state_of}
use Rattle.checker.proofs.Faults.{Accepts-from_Passes}
use Rattle.checker.proofs.order.verdict_at_end.Goals as goal
use Rattle.spec_lemmas.proofs.Calls.{HasOnePlaces-from_history}

pub returns-in-Some-clause-judged : goal.returns-in-Some-clause-judged
returns-in-Some-clause-judged c = λ order counted all.
    let missing = rw c.in-Some.is at c.first_missing.ensures order all in
    record { counted = ap (λ n. n + 1) counted; last = state_of c.args.replay.now.machine; all = all.passes; missing = missing }

pub returns-in-Some-clause-left : goal.returns-in-Some-clause-left
returns-in-Some-clause-left c = λ order counted all. (
  length order,
  ap (λ n. n + 1) counted,
  subst (λ (ls : List Line). Passes c.args.history.now.recorded ls (state_of c.args.replay.now.machine)) (sym (take-length order)) all.passes,
)

pub returns-in-None-clause-left : goal.returns-in-None-clause-left
returns-in-None-clause-left c = λ order counted all. all.passes

pub returns-in-None-clause-judged : goal.returns-in-None-clause-judged
returns-in-None-clause-judged c = λ order counted all.
    let history = c.args.history.now.recorded in
    let named = rw c.in-None.is at c.first_missing.ensures order all in
    subst (Accepts history order) (sym counted)
    (Accepts-from_Passes history all.is_history (HasOnePlaces-from_history history all.is_history) order _ all.passes named)
