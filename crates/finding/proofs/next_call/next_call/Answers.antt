-- The call that is next was made at its place.
use Rattle.finding.proofs.Common.{◌≤◌, HasOnePlaces-from_history, slice_get_within, subst, sym, ℕ}
use Rattle.std.specs.Prelude.{slice_index}
use Rattle.rmm_spec.specs.declared.event.Event.TheVariants.{Called}
use Rattle.rmm_spec.specs.Linearization.{IsCalled}
use Rattle.finding.proofs.next_call.next_call.Goals as goal

pub returns-then-choice-place : goal.returns-then-choice-place
returns-then-choice-place c = λ called command is_called.
    let events = c.args.history.now.recorded.events in
    let counts = c.args.front.now.counts in
    let choice = c.in-Some.choice in
    let next = c.in-Some.ensures.next in
    let made = next.0.places.called in
    let there : IsCalled events called choice.cpu choice.number command =
    subst (λ (n : ℕ). IsCalled events called choice.cpu n command) (sym next.0.numbered)
    (subst (λ (c : ℕ). IsCalled events called c (slice_index counts c) command) (sym next.1) is_called) in
    subst (λ (p : ℕ). c.args.place ≤ p)
    ((HasOnePlaces-from_history c.args.history.now.recorded c.requires.front.is_history).one_call choice.places.called called choice.cpu choice.number
    made.0 command made.1 there)
    c.if-choice-place.true

pub command_at-requires : goal.command_at-requires
command_at-requires c =
    let choice = c.in-Some.choice in
    let made = c.in-Some.ensures.next.0.places.called in
    slice_get_within c.args.history.now.recorded.events choice.places.called (Called choice.cpu choice.number made.0) made.1
