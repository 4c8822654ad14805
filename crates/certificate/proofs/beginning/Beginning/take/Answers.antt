use Rattle.std.proofs.Common.{arith}
use Rattle.certificate.proofs.PieceLemmas.{IsReadTo-ended, bad_ended, bad_full, bad_long}
use Rattle.certificate.proofs.beginning.Beginning.take.Goals as goal

pub returns-then-not-extend-clause-bad : goal.returns-then-not-extend-clause-bad
returns-then-not-extend-clause-bad c =
    rw (← c.self.view_is) (λ text more lines read.
    bad_long text c.args.piece.now more lines _ c.in_default.ensures.unfinished (c.extend.ensures.too_long c.if-not-extend.true) read)

pub returns-then-self-ge-MOST_LINES-clause-bad : goal.returns-then-self-ge-MOST_LINES-clause-bad
returns-then-self-ge-MOST_LINES-clause-bad c =
    rw (← c.self.view_is) (λ text more lines read.
    bad_full text c.args.piece.now c.in-Some.last.now c.in-Some._later.now more lines _ c.in-Some.ensures.line c.if-self-ge-MOST_LINES.true read)

pub returns-in_default-ended_line-clause-bad : goal.returns-in_default-ended_line-clause-bad
returns-in_default-ended_line-clause-bad c =
    rw (← c.self.view_is) (λ text more lines read.
    bad_ended text c.args.piece.now c.in-Some.last.now c.in-Some._later.now more lines _ c.in-Some.ensures.line c.in-Some.ensures.no_newline
    c.in_default-ended_line.ensures.none read)

pub returns-clause-read : goal.returns-clause-read
returns-clause-read c =
    rw (← c.self.view_is) (λ text lines read.
    IsReadTo-ended text c.args.piece.now c.in-Some.last.now c.in-Some._later.now c.ended_line.new.begun lines _ c.in-Some-ended_line.line
    c.in-Some.ensures.line c.in-Some-ended_line.ensures.forgotten c.in-Some-ended_line.ensures.found
    (omega (arith, c.if-self-ge-MOST_LINES.false)) read)
