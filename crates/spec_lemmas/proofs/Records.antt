-- Laws on a history with one event more.
use Rattle.std.proofs.Common.{◌≡◌, ℕ, ◌+◌, ◌<◌, true, false, eqb, List, [], ◌∷◌, ◌++◌, length, Option, Some, None, refl, arith, sym, ap, ◌∙◌, subst, ⊎_elim, append-nil}
use Rattle.std.specs.Prelude.{IsSome, is_some}
use Rattle.std.specs.List.{AllByRecursion}
use Rattle.std.specs.Option.{option_and_then}
use Rattle.std.proofs.lemmas.Bool.{eqb-true, cases_Bool}
use Rattle.std.proofs.lemmas.List.{length_push}
use Rattle.std.proofs.lemmas.List.Elements.{filter-append}
use Rattle.rmm_spec.specs.declared.event.Event.{Event}
use Rattle.rmm_spec.specs.HistoryText.{Config, History, IsHistory, IsEvent, CanFollow, Stand, start, stand_after, stand_from, subhistory_of, cpu_of, IsRecord}
use Rattle.spec_lemmas.proofs.Places.{subhistory_of-same, subhistory_of-other}

-- the event belongs to the CPU, and goes to the end of its part
pub subhistory_of-push_same : (cpu : ℕ) (events : List Event) (event : Event)
    → cpu_of event ≡ cpu → subhistory_of cpu (events ++ event ∷ []) ≡ subhistory_of cpu events ++ event ∷ []
subhistory_of-push_same cpu events event same =
    filter-append (λ e. eqb (cpu_of e) cpu) events (event ∷ [])
    ∙ ap (λ (es : List Event). subhistory_of cpu events ++ es) (subhistory_of-same cpu event [] same)

-- the event belongs to another CPU
pub subhistory_of-push_other : (cpu : ℕ) (events : List Event) (event : Event)
    → eqb (cpu_of event) cpu ≡ false → subhistory_of cpu (events ++ event ∷ []) ≡ subhistory_of cpu events
subhistory_of-push_other cpu events event other =
    filter-append (λ e. eqb (cpu_of e) cpu) events (event ∷ [])
    ∙ ap (λ (es : List Event). subhistory_of cpu events ++ es) (subhistory_of-other cpu event [] other)
    ∙ append-nil (subhistory_of cpu events)

-- the stand after one event more
pub stand_from-push : (old : Stand) (events : List Event) (event : Event)
    → stand_from old (events ++ event ∷ []) ≡ option_and_then (λ last. stand_after last event) (stand_from old events)
stand_from-push old [] event = stand_from-one (stand_after old event)
  where
    stand_from-one : (o : Option Stand) → option_and_then (λ next. stand_from next []) o ≡ o
    stand_from-one None = refl
    stand_from-one (Some s) = refl
stand_from-push old (first ∷ events) event = stand_from-more (stand_after old first) (λ next. stand_from-push next events event)
  where
    stand_from-more : (o : Option Stand)
        → ((next : Stand) → stand_from next (events ++ event ∷ []) ≡ option_and_then (λ last. stand_after last event) (stand_from next events))
        → option_and_then (λ next. stand_from next (events ++ event ∷ [])) o
        ≡ option_and_then (λ last. stand_after last event) (option_and_then (λ next. stand_from next events) o)
    stand_from-more None rest = refl
    stand_from-more (Some s) rest = rest s

-- the stand after one event more, where it is known before
pub stand_from-push_at : (events : List Event) (event : Event) (last : Stand)
    → stand_from start events ≡ Some last → stand_from start (events ++ event ∷ []) ≡ stand_after last event
stand_from-push_at events event last leads =
    stand_from-push start events event ∙ ap (option_and_then (λ s. stand_after s event)) leads

-- the beginning of a record is one
pub IsRecord-front : (events : List Event) (event : Event) → IsRecord (events ++ event ∷ []) → IsRecord events
IsRecord-front events event is_record = known (stand_from start events) (subst IsSome (stand_from-push start events event) is_record)
  where
    known : (o : Option Stand) → IsSome (option_and_then (λ last. stand_after last event) o) → IsSome o
    known None is_some = is_some
    known (Some s) is_some = refl

-- one more element at the end
pub AllByRecursion-push : {X : Type 0} (P : X → Type 0) (xs : List X) (x : X) → AllByRecursion P xs → P x → AllByRecursion P (xs ++ x ∷ [])
AllByRecursion-push P [] x each here = (here, tt)
AllByRecursion-push P (first ∷ xs) x each here = (each.0, AllByRecursion-push P xs x each.1 here)

pub AllByRecursion-last : {X : Type 0} (P : X → Type 0) (xs : List X) (x : X) → AllByRecursion P (xs ++ x ∷ []) → P x
AllByRecursion-last P [] x each = each.0
AllByRecursion-last P (first ∷ xs) x each = AllByRecursion-last P xs x each.1

-- each CPU's part is a record after an event that can follow
pub records_push : (history : History) (event : Event) → IsHistory history → CanFollow history event → (cpu : ℕ)
    → IsRecord (subhistory_of cpu (history.events ++ event ∷ []))
records_push history event is_history can_follow cpu =
    ⊎_elim
    (λ (same : eqb (cpu_of event) cpu ≡ true).
    subst (λ c. IsRecord (subhistory_of c (history.events ++ event ∷ []))) (eqb-true (cpu_of event) cpu same) can_follow.record_goes_on)
    (λ (other : eqb (cpu_of event) cpu ≡ false).
    subst IsRecord (sym (subhistory_of-push_other cpu history.events event other)) (is_history.records cpu))
    (cases_Bool (eqb (cpu_of event) cpu))

-- what can follow makes a history, where there is room for its line
pub IsHistory-push : (history : History) (event : Event) → IsHistory history → CanFollow history event → length history.events + 1 < 1000000
    → IsHistory (record history { events = history.events ++ event ∷ [] })
IsHistory-push history event is_history can_follow room = record {
  config = is_history.config;
  events = AllByRecursion-push (IsEvent history.config.cpus) history.events event is_history.events can_follow.is_event;
  records = records_push history event is_history can_follow;
  lines = omega (arith, length_push history.events event);
}

-- and no other event does
pub CanFollow-from_push : (config : Config) (events : List Event) (event : Event)
    → IsHistory (record { config = config; events = events ++ event ∷ [] })
    → CanFollow (record { config = config; events = events }) event
CanFollow-from_push config events event is_history = record {
  is_event = AllByRecursion-last (IsEvent config.cpus) events event is_history.events;
  record_goes_on = is_history.records (cpu_of event);
}
