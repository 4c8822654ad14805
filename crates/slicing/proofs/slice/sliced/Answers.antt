-- One event more.
use Rattle.std.proofs.Common.{◌++◌, ◌∷◌, ◌∙◌, List, [], ap, refl, sym}
use Rattle.std.proofs.lemmas.List.{append-nil, append_assoc}
use Rattle.rmm_spec.specs.declared.event.Event.{Event}
use Rattle.rmm_spec.specs.HistoryText.{History}
use Rattle.verdict_laws.specs.Slices.{lending_events}
use Rattle.slicing.specs.Plans.{number_at}
use Rattle.slicing.proofs.EventLaws.{taken_to, taken_to-all, taken_to-from, taken_to-next, taken_to-passed}
use Rattle.slicing.proofs.slice.sliced.Goals as goal

pub places-init : goal.places-init
places-init c =
    let plan = c.args.plan.now in
    let history = c.args.history.now.recorded in
    let lent : List Event = lending_events 0 plan.lent.items in
    let none = sym (append-nil lent) ∙ ap (λ es. lent ++ es) (sym (taken_to-from plan c.args.count history.events)) in
    let begun = rw c.in-Some.is at c.in_ok-slice.ensures in
    begun ∙ (λ i. record { config = history.config; events = none i })

pub places-preserved-in_default-number_at : goal.places-preserved-in_default-number_at
places-preserved-in_default-number_at c =
    let plan = c.args.plan.now in
    let history = c.args.history.now.recorded in
    let lent : List Event = lending_events 0 plan.lent.items in
    let passed = taken_to-passed (number_at plan) c.args.count history.events c.places.place c.places-test.true c.requires
    (sym c.in_default-number_at.ensures) in
    c.places.invariant ∙ (λ i. record { config = history.config; events = lent ++ sym passed i })

pub places-preserved : goal.places-preserved
places-preserved c =
    let plan = c.args.plan.now in
    let history = c.args.history.now.recorded in
    let lent : List Event = lending_events 0 plan.lent.items in
    let taken = taken_to (number_at plan) c.args.count history.events in
    let event = c.with_number-event.result in
    let next = taken_to-next (number_at plan) c.args.count history.events c.places.place c.in-Some-number_at.number c.event.result
    c.places-test.true c.event.ensures (sym c.in-Some-number_at.ensures) in
    let events = append_assoc lent (taken c.places.place) (event ∷ [])
    ∙ ap (λ e. lent ++ (taken c.places.place ++ e ∷ [])) c.with_number-event.ensures
    ∙ ap (λ es. lent ++ es) (sym next) in
    c.in_ok-push.ensures.ok
    ∙ ap (λ (h : History). record h { events = h.events ++ event ∷ [] }) c.places.invariant
    ∙ (λ i. record { config = history.config; events = events i })

pub returns : goal.returns
returns c =
    let all = taken_to-all (number_at c.args.plan.now) c.args.count c.args.history.now.recorded.events c.places.place c.places-test.false in (
      c.well_formed-fact.ensures,
      rw c.places.invariant (record { config = refl; events = ap (λ es. lending_events 0 c.args.plan.now.lent.items ++ es) all }),
    )
