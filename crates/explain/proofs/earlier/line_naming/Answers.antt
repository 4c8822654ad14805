-- One of the lines before the index is the one.
use Rattle.explain.proofs.Common.{◌≡◌, arith, false, line_seen, true}
use Rattle.explain.specs.Told.{Names}
use Rattle.explain.proofs.Lines.{HasNoneBelow-next, not-HasNoneBelow}
use Rattle.explain.proofs.earlier.line_naming.Goals as goal

pub loop-i-preserved : goal.loop-i-preserved
loop-i-preserved c =
    HasNoneBelow-next c.args.certificate.now.lines c.loop-i.i (line_seen c.line.result) (Names c.args.cpu c.args.number) c.line.ensures
    (λ says. absurd (let bad : false ≡ true = c.if-names.ensures.1 says in cc)) c.loop-i.invariant

pub unreachable-requires : goal.unreachable-requires
unreachable-requires c =
    not-HasNoneBelow c.args.certificate.now.lines c.args.index (Names c.args.cpu c.args.number)
    (c.requires.named.0, (c.requires.named.1, c.requires.named.2, (c.requires.named.3, c.requires.named.4)))
    (λ i line within is_line. c.loop-i.invariant i line (omega (arith, within, c.loop-i-test.false)) is_line)
