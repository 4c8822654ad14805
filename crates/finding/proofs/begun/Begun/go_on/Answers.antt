-- A call that is tried alone is given its reply, or none is.
use Rattle.finding.proofs.begun.Begun.go_on.Goals as goal

pub calls-preserved : goal.calls-preserved
calls-preserved c =
    let grown = rw c.if-not-given.false at c.in_ok-given.ensures.grown in
    record {
      begun = grown.begun;
      covers = λ lost. c.calls.invariant.covers ((rw c.in-Some.is at c.in_ok-next.ensures).alone (λ lines holds. grown.behind lines holds lost));
    }

pub returns-then-not-given-clause-begun : goal.returns-then-not-given-clause-begun
returns-then-not-given-clause-begun c = (rw c.if-not-given.true at c.in_ok-given.ensures.grown).begun

pub returns-then-not-given-clause-covers : goal.returns-then-not-given-clause-covers
returns-then-not-given-clause-covers c =
    let stays = rw c.if-not-given.true at c.in_ok-given.ensures.grown in
    c.calls.invariant.covers ((rw c.in-Some.is at c.in_ok-next.ensures).alone (λ lines holds. stays.refused lines holds))
