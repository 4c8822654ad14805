-- The line isn't given the reply that it claims.
use Rattle.explain.proofs.Common.{◌∙◌, line_seen, refl, state_of, sym}
use Rattle.explain.proofs.Refusals.{refused-step}
use Rattle.explain.proofs.cause.refused.Goals as goal

pub told_of-requires-clause-refused : goal.told_of-requires-clause-refused
told_of-requires-clause-refused c =
    let call = c.named_call-call.result in
    let made = c.named_call-call.ensures.told.called in
    let is_called =
    rw (c.named_call-call.ensures.cpu ∙ c.called_by-cpu.ensures.cpu, c.named_call-call.ensures.number ∙ c.called_by-cpu.ensures.number) at made.2 in
    rw (c.named_call-call.ensures.cpu ∙ c.called_by-cpu.ensures.cpu)
    (refused-step c.args.history.now.recorded.events (state_of c.args.machine.now)
    (line_seen c.args.line) call.call.command c.claimed_by-claimed.result
    c.requires.refuses made.0 is_called c.claimed_by-claimed.ensures)

pub returns-clause-cause : goal.returns-clause-cause
returns-clause-cause c =
    let told = c.in_ok-told.ensures in (
      (
        c.args.index,
        refl,
        (
          line_seen c.args.line,
          c.requires.is_line,
          (
            sym c.called_by-cpu.ensures.cpu ∙ sym c.named_call-call.ensures.cpu,
            sym c.called_by-cpu.ensures.number ∙ sym c.named_call-call.ensures.number,
          ),
        ),
      ),
      c.named_call-call.ensures.told,
      record {
        index = c.args.index;
        counted = refl;
        line = line_seen c.args.line;
        is_line = c.requires.is_line;
        claims = c.claimed_by-claimed.ensures;
        old = state_of c.args.machine.now;
        passes = c.requires.left;
        specifies = c.outcome-specified.ensures;
        watched = told.watched;
        decides = told.decides;
        since = told.since;
        put = told.put;
        late = told.late;
        before = told.before;
      },
    )
