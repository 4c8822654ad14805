-- One event more, and the events that are so many.
use Rattle.std.proofs.Common.{arith}
use Rattle.std.proofs.lemmas.List.{append_assoc, length-append}
use Rattle.finding.proofs.Common.{◌≡◌, ◌++◌, ◌∙◌, ◌∷◌, [], ap, sym}
use Rattle.finding.proofs.first_part.first_part.Goals as goal

pub places-preserved : goal.places-preserved
places-preserved c =
    let so_far = c.places.invariant in
    let old = c.places.part.recorded.events in
    let event = c.to_event-event.result in
    let left = c.next.new.self in
    let next : c.places.events ≡ event ∷ left = rw c.to_event-event.ensures c.in-Some.ensures.event in
    let grown = length-append old (event ∷ []) in
    rw c.in_ok-push.ensures.ok
    (record {
      config = so_far.config;
      count = omega (arith, grown, so_far.count);
      all = append_assoc old (event ∷ []) left ∙ ap (λ events. old ++ events) (sym next) ∙ so_far.all;
    })
