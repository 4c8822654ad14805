-- The call that makes it was carried out, and each call is the same, returned before it was made, or leaves the fact.
use Rattle.std.proofs.Common.{inr, refl}
use Rattle.slicing.specs.Calls.{events_to}
use Rattle.slicing.proofs.FactLaws.{IsFirst-done, IsLeftSince-early, IsMadeBy-done}
use Rattle.slicing.proofs.held.is_made.Goals as goal

pub returns-then-is_made_by : goal.returns-then-is_made_by
returns-then-is_made_by c left =
    let a = c.args in
    let (done, first) = c.in-Some.ensures in
    let events = events_to a.count a.history.now.recorded.events in
    inr (
      record { end = a.count; call = done.0; first = IsFirst-done events a.turn a.count a.maker a.place c.in-Some.done done first },
      IsMadeBy-done events a.count a.maker c.in-Some.done a.fact done (c.if-is_made_by.ensures refl),
      IsLeftSince-early a.turn a.fact events a.place a.maker done.0.called done.1 (c.are_left.ensures left),
    )
