-- The machine gives the reply or refuses it.
use Rattle.std.proofs.Common.{refl, arith}
use Rattle.finding.proofs.Attempts.{of_a_line}
use Rattle.finding.proofs.BegunLaws.{IsGrown-given, Stays-refused}
use Rattle.finding.proofs.Growing.{number_of_next}
use Rattle.finding.proofs.begun.Begun.grow.Goals as goal

pub overflow_add-choice : goal.overflow_add-choice
overflow_add-choice c =
    let few = number_of_next c.args.history.now.recorded c.requires.begun.front.is_history c.args.self.now.front.counts 0 c.args.next.now.choice
    c.requires.next.call in
    omega (arith, few)

pub set-requires-clause-cpu : goal.set-requires-clause-cpu
set-requires-clause-cpu c =
    (of_a_line c.args.history.now.recorded c.requires.begun.front.is_history c.args.next.now.choice c.requires.next.call.places).0

pub returns-then-given-clause-grown : goal.returns-then-given-clause-grown
returns-then-given-clause-grown c =
    rw c.if-given.true
    (IsGrown-given c.args.history.now.recorded c.requires.begun.front.is_history
    c.args.self.now _ c.args.next.now.choice c.args.next.now.line c.requires.next.call c.requires.next.of_cpu
    c.requires.next.numbered c.requires.next.kind c.requires.next.soon
    (rw c.if-given.true at c.in_ok-given.ensures.given) c.set.ensures.counts c.requires.begun c.set.ensures.front)

pub returns-else-given-clause-grown : goal.returns-else-given-clause-grown
returns-else-given-clause-grown c =
    rw c.if-given.false
    (Stays-refused c.args.history.now.recorded c.requires.begun.front.is_history
    c.args.self.now _ c.args.next.now.choice c.args.next.now.line c.requires.next.call c.requires.next.of_cpu
    c.requires.next.numbered c.requires.next.kind c.requires.next.soon c.requires.begun (rw c.if-given.false at c.in_ok-given.ensures.given) refl
    (c.in_ok-given.ensures.kept c.if-given.false))
