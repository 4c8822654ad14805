use Rattle.std.proofs.Common.{arith}
use Rattle.rmm_spec.specs.declared.line.Line.TheVariants.{Keep}
use Rattle.certificate.proofs.PieceLemmas.{IsReadTo-front, Takes-front}
use Rattle.certificate.proofs.beginning.Beginning.take_kept.Goals as goal

pub returns-clause-taken : goal.returns-clause-taken
returns-clause-taken c = Takes-front c.args.piece.now c.in_ok-count.count
    (Keep c.in_ok-count.cpu c.in_ok-count.number) c.in_ok-count.ensures.inside c.in_ok-count.ensures.found

pub returns-clause-read : goal.returns-clause-read
returns-clause-read c =
    rw (← c.self.view_is) (λ text lines read.
    IsReadTo-front text _ lines _ (Keep c.in_ok-count.cpu c.in_ok-count.number) c.in_ok-count.ensures.found c.in_ok-count.ensures.line
    (c.is_empty.ensures.0 c.if-not-is_empty.false) (omega (arith, c.if-self-ge-MOST_LINES.false)) read)
