-- The call that makes it was carried out, and each call comes no later, or leaves the fact.
use Rattle.std.proofs.Common.{refl}
use Rattle.slicing.specs.Calls.{events_to}
use Rattle.slicing.proofs.FactLaws.{IsFirst-done, IsLeftSinceWith-early, IsMadeWith-done}
use Rattle.slicing.proofs.held.is_made_with.Goals as goal

pub returns-then-are_left_beside : goal.returns-then-are_left_beside
returns-then-are_left_beside c makes =
    let a = c.args in
    let (done, first) = c.in-Some.ensures in
    let events = events_to a.count a.history.now.recorded.events in (
      record { end = a.count; call = done.0; first = IsFirst-done events a.turn a.count a.maker a.place c.in-Some.done done first },
      IsMadeWith-done a.turn events a.count a.maker c.in-Some.done a.fact done (c.makes_it.ensures makes),
      IsLeftSinceWith-early a.turn a.fact events a.place a.maker done.0.called done.1 (c.if-are_left_beside.ensures refl),
    )
