-- What is recorded next can be, wherever turns lead.
use Rattle.world.proofs.Common.{◌++◌, ◌+◌, ◌<◌, ◌∷◌, ◌≡◌, Command, Config, Decided, IsReached, List, Option, Reply, Some, World, [], arith, false, false≢true, length, refl, slice_get, subst, suc, true, views_of, world_from, world_with, zero, ℕ}
use Rattle.std.proofs.Common.{◌≤◌}
use Rattle.std.specs.List.{AllByRecursion}
use Rattle.std.proofs.Math.Logic.{∥∥₁_elim}
use Rattle.std.proofs.Props.{props}
use Rattle.std.proofs.lemmas.List.{length_push}
use Rattle.rmm_spec.specs.declared.event.Event.{Event}
use Rattle.rmm_spec.specs.declared.event.Event.TheVariants.{Called, Returned}
use Rattle.rmm_spec.specs.HistoryText.{IsConfig, IsEvent, IsRecord, CanFollow, cpu_of, subhistory_of}
use Rattle.rmm_spec.specs.World.{Between}
use Rattle.world.specs.declared.world.World as own
use Rattle.world.specs.Kept.{IsFit}
use Rattle.world.proofs.Moves.{called, with_call, returned, with_return}
use Rattle.world.proofs.Reached.{written-reached}
use Rattle.world.proofs.Lines.{IsReply-single}

last-event : (cpus : ℕ) (events : List Event) (event : Event) → AllByRecursion (IsEvent cpus) (events ++ event ∷ []) → IsEvent cpus event
last-event cpus [] event each = each.0
last-event cpus (first ∷ events) event each = last-event cpus events event each.1

-- the event that a turn records can follow, and has room
pub follows-reached : (config : Config) (events : List Event) (event : Event) (next : World) (waits : ℕ → Option ℕ) → IsConfig config
    → next.config ≡ config → next.events ≡ events ++ event ∷ []
    → IsProp (CanFollow (record { config = config; events = events }) event × (length events + 1 < 1000000))
    → ∥ IsReached config next waits ∥₁ → CanFollow (record { config = config; events = events }) event × (length events + 1 < 1000000)
follows-reached config events event next waits is_config same recorded single reached = ∥∥₁_elim reached single (λ r.
    let written = (written-reached config next waits is_config r).0 in
    let all = subst (AllByRecursion (IsEvent config.cpus)) recorded
    (subst (λ (c : Config). AllByRecursion (IsEvent c.cpus) next.events) same written.events) in (
      record {
        is_event = last-event config.cpus events event all;
        record_goes_on = subst (λ es. IsRecord (subhistory_of (cpu_of event) es)) recorded (written.records (cpu_of event));
      },
      let lines : length (events ++ event ∷ []) < 1000000 = subst (λ (es : List Event). length es < 1000000) recorded written.lines in
          omega (arith, lines, length_push events event),
    ))

module _ (s : own.World) (cpu number : ℕ) (is_config : IsConfig s.history.recorded.config) (within : cpu < s.history.recorded.config.cpus) where
  -- a call can be recorded
  pub call-follows : (command : Command) → (views_of s.cpus).phase cpu ≡ Between number → slice_get ((views_of s.cpus).program cpu) 0 ≡ Some command
      → CanFollow s.history.recorded (Called cpu number command) × (length s.history.recorded.events + 1 < 1000000)
  call-follows command between first =
      let f = with_call s cpu within number command in
      follows-reached s.history.recorded.config s.history.recorded.events (Called cpu number command)
      (world_with f.cells f.side f.views f.journal f.history) f.views.waits is_config refl refl
      (hlevel props) (called s cpu within number command between first).kept.reached

  -- and a return
  pub return-follows : (command : Command) (given : Reply)
      → (views_of s.cpus).phase cpu ≡ Decided number command given → (views_of s.cpus).taken cpu ≡ []
      → CanFollow s.history.recorded (Returned cpu number given) × (length s.history.recorded.events + 1 < 1000000)
  return-follows command given decided none =
      let f = with_return s cpu within number given in
      follows-reached s.history.recorded.config s.history.recorded.events (Returned cpu number given)
      (world_with f.cells f.side f.views f.journal f.history) f.views.waits is_config refl refl
      (hlevel (props, IsReply-single given)) (returned s cpu within number command given decided none).kept.reached

-- the number of the next call is within the limit
pub next-number : (s : own.World) (cpu number : ℕ) (command : Command) (given : Reply) → (views_of s.cpus).phase cpu ≡ Decided number command given
    → number + 1 ≤ 499999
unfolding world_from
next-number s cpu number command given decided =
    let was : IsFit (Decided number command given) ((views_of s.cpus).program cpu) =
    subst (λ p. IsFit p ((views_of s.cpus).program cpu)) decided (s.kept.fit.each cpu) in
    omega (arith, was.numbered)

-- what was refused had no room left, since room for one would have been enough
pub none_left : (room : ℕ) → (1 ≤ room → false ≡ true) → room ≡ 0
none_left zero enough = refl
none_left (suc room) enough = absurd (false≢true (enough (omega arith)))
