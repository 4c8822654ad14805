-- One of the lines before names a call.
use Rattle.explain.proofs.Common.{◌∙◌, arith, line_seen, sym}
use Rattle.std.proofs.Common.{◌-◌}
use Rattle.explain.proofs.Replaying.{known_before}
use Rattle.explain.proofs.since.step_before.Goals as goal

pub line-requires : goal.line-requires
line-requires c = omega (arith, c.requires.within, c.requires.some, c.requires.before)

pub named_call-requires : goal.named_call-requires
named_call-requires c =
    let known = known_before c.args.history.now.recorded c.args.certificate.now.lines c.args.index c.requires.passing.0 c.requires.passing.1
    (c.args.count - 1) (line_seen c.line.result) (omega (arith, c.requires.some, c.requires.before)) c.line.ensures in
    rw (c.called_by-cpu.ensures.cpu, c.called_by-cpu.ensures.number) known

pub returns-clause-earlier : goal.returns-clause-earlier
returns-clause-earlier c = (
  (
    c.args.count - 1,
    omega (arith, c.requires.some),
    (
      line_seen c.line.result,
      c.line.ensures,
      (sym c.called_by-cpu.ensures.cpu ∙ sym c.named_call.ensures.cpu, sym c.called_by-cpu.ensures.number ∙ sym c.named_call.ensures.number),
    ),
  ),
  c.named_call.ensures.told,
  omega (arith, c.requires.before),
)
