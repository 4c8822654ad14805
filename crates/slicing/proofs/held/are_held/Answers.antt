-- Fact by fact.
use Rattle.std.proofs.Common.{refl, subst}
use Rattle.std.proofs.lemmas.List.{take_all}
use Rattle.std.proofs.lemmas.List.Elements.{All-more}
use Rattle.slicing.specs.Calls.{events_to}
use Rattle.verdict_laws.specs.HeldFacts.{AreHeldAt, IsHeldAt}
use Rattle.slicing.proofs.held.are_held.Goals as goal

pub loop-fact-preserved : goal.loop-fact-preserved
loop-fact-preserved c =
    let a = c.args in
    All-more (λ fact. IsHeldAt a.turn fact (events_to a.count a.history.now.recorded.events) a.place) a.facts.now c.loop-fact.fact-index _
    c.loop-fact-test.true c.loop-fact.invariant (c.if-not-is_held.ensures refl)

pub returns : goal.returns
returns c = λ all.
    let a = c.args in
    subst (λ facts. AreHeldAt a.turn facts (events_to a.count a.history.now.recorded.events) a.place)
    (take_all c.loop-fact.fact-index a.facts.now c.loop-fact-test.false) c.loop-fact.invariant
