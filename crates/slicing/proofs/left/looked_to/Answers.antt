-- What is made after the call returned comes after it.
use Rattle.std.proofs.Common.{arith, inr}
use Rattle.slicing.specs.Calls.{events_to}
use Rattle.slicing.proofs.FactLaws.{IsOver-answered}
use Rattle.slicing.proofs.left.looked_to.Goals as goal

pub returns-in-Some-answer-clause-over : goal.returns-in-Some-answer-clause-over
returns-in-Some-answer-clause-over c at past =
    let answer = c.in-Some-answer.answer in
    inr (IsOver-answered (events_to c.args.count c.args.history.now.recorded.events) c.args.place at c.in-Some.call answer c.in-Some.ensures.some
    c.in-Some-answer.is (omega (arith, past)))
