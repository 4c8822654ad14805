-- How many of the first events are calls.
use Rattle.explain.proofs.Common.{◌+◌, ◌<◌, ◌∙◌, ◌≡◌, Bool, Command, Event, IsCalled, List, Some, ap, arith, false, length, refl, slice_get_within, take, ℕ}
use Rattle.std.proofs.Common.{cond, get_or}
use Rattle.std.specs.List.{filter}
use Rattle.std.proofs.lemmas.List.Filters.{length-filter_more}
use Rattle.std.proofs.lemmas.Option.{get_or_from_slice_get, slice_get-get_or}
use Rattle.rmm_spec.specs.declared.event.Event.TheVariants.{Called, Returned}
use Rattle.rmm_spec.specs.declared.reply.Reply.TheVariants as reply
use Rattle.explain.specs.Told.{is_call}

-- what stands where nothing does
abbrev pub no_event : Event
no_event = Returned 0 0 reply.Misplaced

-- a call is counted
pub calls-called : (events : List Event) (place calls cpu number : ℕ) (command : Command) → IsCalled events place cpu number command
    → calls ≡ length (filter is_call (take place events)) → calls + 1 ≡ length (filter is_call (take (place + 1) events))
calls-called events place calls cpu number command called counted =
    let here = get_or_from_slice_get events place (Called cpu number command) no_event called in
    let one = ap is_call here in
    let within = slice_get_within events place (Called cpu number command) called in
    let more = length-filter_more is_call events place no_event within
    ∙ ap (λ (b : Bool). length (filter is_call (take place events)) + cond b 1 0) one in
    omega (arith, more, counted)

-- an event that is no call is no call
pub is_call-none : (event : Event) → ((cpu number : ℕ) (command : Command) → ¬ (event ≡ Called cpu number command)) → is_call event ≡ false
is_call-none (Called cpu number command) none = absurd (none cpu number command refl)
is_call-none (Returned cpu number given) none = refl

-- another event isn't
pub calls-other : (events : List Event) (place calls : ℕ)
    → place < length events → ((cpu number : ℕ) (command : Command) → ¬ IsCalled events place cpu number command)
    → calls ≡ length (filter is_call (take place events)) → calls ≡ length (filter is_call (take (place + 1) events))
calls-other events place calls within none counted =
    let here = slice_get-get_or events place no_event within in
    let other =
    is_call-none (get_or events place no_event) (λ cpu number command same. none cpu number command (here ∙ ap (λ (e : Event). Some e) same)) in
    let more = length-filter_more is_call events place no_event within
    ∙ ap (λ (b : Bool). length (filter is_call (take place events)) + cond b 1 0) other in
    omega (arith, more, counted)
