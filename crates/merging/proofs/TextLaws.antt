-- A run's history and certificate are in their grammars, and what is written of them.
use Rattle.merging.proofs.Common.{◌++◌, ◌+◌, ◌<◌, ◌∙◌, ◌∷◌, ◌≡◌, Appends, Call, Commit, Happened, List, Moment, Option, Return, Some, Stand, [], ap, append-nil, append_assoc, arith, event_parts, events_from, events_of, length, line_parts, lines_from, lines_of, lines_text, map, refl, returns_in, slice_get, stands_after, stands_with, starts, subst, sym, take, ℕ}
use Rattle.std.proofs.Common.{◌-◌, length-append}
use Rattle.std.specs.List.{AllByRecursion}
use Rattle.rmm_spec.specs.CertificateText.{IsLine, IsCertificate}
use Rattle.rmm_spec.specs.HistoryText.{Config, History, IsConfig, IsHistory, subhistory_of, config_parts}
use Rattle.rmm_spec.specs.declared.event.Event.{Event}
use Rattle.rmm_spec.specs.declared.event.Event.TheVariants as event
use Rattle.rmm_spec.specs.declared.line.Line.{Line}
use Rattle.spec_lemmas.proofs.Lines.{lines_text-append}
use Rattle.spec_lemmas.proofs.Records.{IsHistory-push}
use Rattle.spec_lemmas.proofs.Texts.{AllByRecursion-append}
use Rattle.merging.specs.Events.{IsMoment}
use Rattle.merging.specs.Table.{IsHappened}
use Rattle.merging.specs.Merge.{Merge, CanMerge, GrowsByHistory, GrowsByCertificate}
use Rattle.merging.specs.Run.{Phase, Idle, Called, Committed, Fits, IsRun, event_count, events_merged, lines_merged}
use Rattle.merging.proofs.CountLaws.{open_count, AreCounted, AreCounted-step, CanFollow-call, CanFollow-return, calls-lt, IsLine-commit, length-events_of}
use Rattle.merging.proofs.RunLaws.{events_from-push, lines_from-push}
use Rattle.merging.proofs.LineLaws.{lines_of_both}
use Rattle.lemmas.proofs.Elements.{take-next_at}
use Rattle.lemmas.proofs.Appended.{Appends-both}

AreCounted-start : AreCounted [] starts
AreCounted-start = record { events_of_cpu = λ cpu. refl; returns = λ cpu. refl }

-- ---- the history

-- the event of a moment that fits leaves a history
with_moment : (config : Config) (before : List Event) (stand : Stand) (cpu : ℕ) (phase : Phase) (moment : Moment) → stand.phase ≡ phase
    → IsHistory (record { config = config; events = before }) → cpu < config.cpus → IsMoment moment → Fits phase moment
    → length (subhistory_of cpu before) + open_count phase ≡ stand.calls + stand.calls
    → length before + event_count moment < 1000000 → IsHistory (record { config = config; events = before ++ events_of stand cpu moment })
with_moment config before stand cpu Idle (Call command) is is_history below is_moment fits counted room =
    let old : History = record { config = config; events = before } in
    IsHistory-push old (event.Called cpu stand.calls command) is_history
    (CanFollow-call old cpu stand.calls command is_history below is_moment (omega (arith, counted))) room
with_moment config before stand cpu Called (Call command) is is_history below is_moment fits counted room = absurd fits
with_moment config before stand cpu (Committed given) (Call command) is is_history below is_moment fits counted room = absurd fits
with_moment config before stand cpu phase (Commit given) is is_history below is_moment fits counted room =
    subst (λ (es : List Event). IsHistory (record { config = config; events = es })) (sym (append-nil before)) is_history
with_moment config before stand cpu Idle (Return given) is is_history below is_moment fits counted room = absurd fits
with_moment config before stand cpu Called (Return given) is is_history below is_moment fits counted room = absurd fits
with_moment config before stand cpu (Committed committed) (Return given) is is_history below is_moment fits counted room =
    let old : History = record { config = config; events = before } in
    IsHistory-push old (event.Returned cpu (stand.calls - 1) given) is_history
    (CanFollow-return old cpu (stand.calls - 1) given is_history below is_moment (omega (arith, counted))) room

history_from : (config : Config) (before : List Event) (stands : ℕ → Stand) (slots : List Happened)
    → IsHistory (record { config = config; events = before })
    → AreCounted before stands → IsRun config.cpus stands slots
    → AllByRecursion IsHappened slots → length (before ++ events_from stands slots) < 1000000
    → IsHistory (record { config = config; events = before ++ events_from stands slots })
history_from config before stands [] is_history counted run each room =
    subst (λ (es : List Event). IsHistory (record { config = config; events = es })) (sym (append-nil before)) is_history
history_from config before stands (slot ∷ slots) is_history counted run each room =
    let stand = stands slot.cpu in
    let own = events_of stand slot.cpu slot.moment in
    let next = stands_with stands slot in
    let regrouped = append_assoc before own (events_from next slots) in
    let fits : length before + event_count slot.moment < 1000000 =
    omega (
      arith,
      room,
      length-append before (own ++ events_from next slots),
      length-append own (events_from next slots),
      length-events_of stand slot.cpu slot.moment,
    ) in
    subst (λ (es : List Event). IsHistory (record { config = config; events = es })) regrouped
    (history_from config (before ++ own) next slots
    (with_moment config before stand slot.cpu stand.phase slot.moment refl is_history
    run.0.cpu each.0.moment run.0.fits (counted.events_of_cpu slot.cpu) fits)
    (AreCounted-step before stands slot counted run.0.fits) run.1 each.1 (subst (λ (es : List Event). length es < 1000000) (sym regrouped) room))

IsHistory-none : (config : Config) → IsConfig config → IsHistory (record { config = config; events = [] })
IsHistory-none config is_config = record { config = is_config; events = tt; records = λ cpu. refl; lines = omega arith }

pub IsHistory-merged : (config : Config) (events : List Happened) → IsConfig config → CanMerge config.cpus events
    → IsHistory (record { config = config; events = events_merged events })
IsHistory-merged config events is_config can =
    history_from config [] starts events (IsHistory-none config is_config) AreCounted-start can.is_run can.each can.few_events

-- ---- the certificate

line_of_moment : (returns : ℕ) (stand : Stand) (cpu : ℕ) (moment : Moment) → cpu < 8 → stand.calls < 1000000 → IsMoment moment
    → AllByRecursion IsLine (lines_of returns stand cpu moment)
line_of_moment returns stand cpu (Call command) below few is_moment = tt
line_of_moment returns stand cpu (Commit given) below few is_moment =
    let less : stand.calls - 1 < 1000000 = omega (arith, few) in
    (IsLine-commit _ cpu (stand.calls - 1) given below less is_moment, tt)
line_of_moment returns stand cpu (Return given) below few is_moment = tt

lines_each : (returns : ℕ → ℕ) (cpus : ℕ) (before : List Event) (stands : ℕ → Stand) (slots : List Happened) → AreCounted before stands
    → IsRun cpus stands slots → AllByRecursion IsHappened slots → length (before ++ events_from stands slots) < 1000000
    → AllByRecursion IsLine (lines_from returns stands slots)
lines_each returns cpus before stands [] counted run each room = tt
lines_each returns cpus before stands (slot ∷ slots) counted run each room =
    let stand = stands slot.cpu in
    let own = events_of stand slot.cpu slot.moment in
    let next = stands_with stands slot in
    let regrouped = append_assoc before own (events_from next slots) in
    let few : length before < 1000000 = omega (arith, room, length-append before (own ++ events_from next slots)) in
    AllByRecursion-append IsLine (lines_of (returns slot.cpu) stand slot.cpu slot.moment) (lines_from returns next slots)
    (line_of_moment (returns slot.cpu) stand slot.cpu slot.moment each.0.cpu
    (calls-lt before slot.cpu stand.calls stand.phase (counted.events_of_cpu slot.cpu) few) each.0.moment)
    (lines_each returns cpus (before ++ own) next slots (AreCounted-step before stands slot counted run.0.fits) run.1 each.1
    (subst (λ (es : List Event). length es < 1000000) (sym regrouped) room))

pub IsCertificate-merged : (cpus : ℕ) (events : List Happened) → CanMerge cpus events → IsCertificate (lines_merged events)
IsCertificate-merged cpus events can = record {
  each = lines_each (λ cpu. returns_in cpu events) cpus [] starts events AreCounted-start can.is_run can.each can.few_events;
  count = can.few_lines;
}

-- ---- both texts, written

-- a history's text behind its first line
pub GrowsByHistory-written : (merge : Merge) (first second third : Option (List ℕ)) → IsConfig merge.config → CanMerge merge.config.cpus merge.events
    → Appends first second (lines_text (config_parts merge.config ∷ []))
    → Appends second third (lines_text (map event_parts (events_merged merge.events)))
    → GrowsByHistory merge first third
GrowsByHistory-written merge first second third is_config can head rest =
    let lines = map event_parts (events_merged merge.events) in
    record {
      text = lines_text (config_parts merge.config ∷ lines);
      is_text = record { is_history = IsHistory-merged merge.config merge.events is_config can; is_text = refl };
      appends = subst (Appends first third)
          (sym (lines_text-append (config_parts merge.config ∷ []) lines)) (Appends-both first second third _ _ head rest);
    }

pub GrowsByCertificate-written : (merge : Merge) (first second : Option (List ℕ)) → CanMerge merge.config.cpus merge.events
    → Appends first second (lines_text (map line_parts (lines_merged merge.events))) → GrowsByCertificate merge first second
GrowsByCertificate-written merge first second can lines = record {
  text = lines_text (map line_parts (lines_merged merge.events));
  is_text = record { is_certificate = IsCertificate-merged merge.config.cpus merge.events can; is_text = refl };
  appends = lines;
}

-- one moment more
module _ (first second third : Option (List ℕ)) (events : List Happened) (stamp : ℕ) (slot : Happened) (is : slice_get events stamp ≡ Some slot) where
  pub history-next : Appends first second (lines_text (map event_parts (events_from starts (take stamp events))))
      → Appends second third (lines_text (map event_parts (events_of (stands_after starts (take stamp events) slot.cpu) slot.cpu slot.moment)))
      → Appends first third (lines_text (map event_parts (events_from starts (take (stamp + 1) events))))
  history-next before own =
      let stand = stands_after starts (take stamp events) slot.cpu in
      subst (λ (es : List Event). Appends first third (lines_text (map event_parts es)))
      (sym (ap (events_from starts) (take-next_at events stamp slot is) ∙ events_from-push starts (take stamp events) slot))
      (subst (Appends first third) (sym (lines_of_both event_parts (events_from starts (take stamp events)) (events_of stand slot.cpu slot.moment)))
      (Appends-both first second third _ _ before own))

  pub certificate-next : (returns : ℕ → ℕ) → Appends first second (lines_text (map line_parts (lines_from returns starts (take stamp events))))
      → Appends second third
      (lines_text (map line_parts (lines_of (returns slot.cpu) (stands_after starts (take stamp events) slot.cpu) slot.cpu slot.moment)))
      → Appends first third (lines_text (map line_parts (lines_from returns starts (take (stamp + 1) events))))
  certificate-next returns before own =
      let stand = stands_after starts (take stamp events) slot.cpu in
      subst (λ (ls : List Line). Appends first third (lines_text (map line_parts ls)))
      (sym (ap (lines_from returns starts) (take-next_at events stamp slot is) ∙ lines_from-push returns starts (take stamp events) slot))
      (subst (Appends first third)
      (sym (lines_of_both line_parts (lines_from returns starts (take stamp events)) (lines_of (returns slot.cpu) stand slot.cpu slot.moment)))
      (Appends-both first second third _ _ before own))
