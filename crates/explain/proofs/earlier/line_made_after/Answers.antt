-- One of the lines before the index is the one.
use Rattle.explain.proofs.Common.{◌≡◌, arith, false, line_seen, true}
use Rattle.explain.specs.Told.{IsMadeAfter}
use Rattle.explain.proofs.Lines.{HasNoneBelow-next, not-HasNoneBelow}
use Rattle.explain.proofs.earlier.line_made_after.Goals as goal

pub loop-i-preserved : goal.loop-i-preserved
loop-i-preserved c =
    HasNoneBelow-next c.args.certificate.now.lines c.loop-i.i (line_seen c.line.result)
    (IsMadeAfter c.args.history.now.recorded.events c.args.returned) c.line.ensures
    (λ says. absurd (let bad : false ≡ true = c.if-is_made_after.ensures.1 says in cc)) c.loop-i.invariant

pub unreachable-requires : goal.unreachable-requires
unreachable-requires c =
    not-HasNoneBelow c.args.certificate.now.lines c.args.index (IsMadeAfter c.args.history.now.recorded.events c.args.returned) c.requires.late
    (λ i line within is_line. c.loop-i.invariant i line (omega (arith, within, c.loop-i-test.false)) is_line)
