-- The event at the place is the first of those that are left.
use Rattle.std.proofs.Common.{ap, sym, ◌∙◌, suc, ◌∷◌, drop, drop-cons, add-one}
use Rattle.std.proofs.lemmas.Option.{slice_get_within, get_or_from_slice_get}
use Rattle.history.specs.EventRef.{event_seen}
use Rattle.history.proofs.events.Events.next.Goals as goal

pub returns-clause-event : goal.returns-clause-event
returns-clause-event c =
    let events = c.self.inside.history.now.recorded.events in
    let place = c.self.inside.place in
    let event = event_seen c.counted_at-event.result in
    rw (← c.self.view_is)
    (drop-cons events place event (slice_get_within events place event c.counted_at-event.ensures.event)
    ∙ ap (λ e. e ∷ drop (suc place) events) (get_or_from_slice_get events place event event c.counted_at-event.ensures.event)
    ∙ ap (λ k. event ∷ drop k events) (sym (add-one place)))
