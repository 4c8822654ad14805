-- A line fits into the buffer for one: a call's number has at most six digits.
use Rattle.merging.proofs.Common.{◌++◌, ◌+◌, ◌<◌, ◌∷◌, ◌≡◌, ◌≤◌, Call, Commit, Happened, List, Moment, Return, Stand, [], append-nil, append_assoc, arith, event_parts, events_from, events_of, length, line_parts, lines_text, refl, stands_after, stands_with, starts, subst, suc, sym, take, zero, ℕ}
use Rattle.std.proofs.Common.{◌-◌, true, if◌then◌else◌, nat_lt, length-append}
use Rattle.std.specs.Prelude.{Result, Ok, Err, OnErr, is_err}
use Rattle.rmi_codec.proofs.LineLengths.{length-line_text, width-called, width-returned, width-config, width-line}
use Rattle.rmm_spec.specs.HistoryText.{Config, IsConfig, config_parts}
use Rattle.rmm_spec.specs.Text.{line_text}
use Rattle.rmm_spec.specs.declared.event.Event.{Event}
use Rattle.rmm_spec.specs.declared.event.Event.TheVariants as event
use Rattle.rmm_spec.specs.declared.line.Line.TheVariants as line
use Rattle.merging.specs.Events.{IsMoment}
use Rattle.merging.specs.Table.{IsHappened}
use Rattle.merging.specs.Merge.{AreNumbered, CanMerge, moment_text, text_of}
use Rattle.merging.specs.Run.{IsRun}
use Rattle.merging.proofs.CountLaws.{AreCounted, AreCounted-step, IsLine-commit, calls-lt}
use Rattle.merging.proofs.CutLaws.{length-events_front}

-- ---- how often a CPU has called

AreCounted-after : (cpus n : ℕ) (before : List Event) (stands : ℕ → Stand) (slots : List Happened)
    → AreCounted before stands → IsRun cpus stands slots
    → AreCounted (before ++ events_from stands (take n slots)) (stands_after stands (take n slots))
AreCounted-after cpus zero before stands slots counted run = subst (λ es. AreCounted es stands) (sym (append-nil before)) counted
AreCounted-after cpus (suc n) before stands [] counted run = subst (λ es. AreCounted es stands) (sym (append-nil before)) counted
AreCounted-after cpus (suc n) before stands (slot ∷ slots) counted run =
    let own = events_of (stands slot.cpu) slot.cpu slot.moment in
    let next = stands_with stands slot in
    subst (λ es. AreCounted es (stands_after next (take n slots))) (append_assoc before own (events_from next (take n slots)))
    (AreCounted-after cpus n (before ++ own) next slots (AreCounted-step before stands slot counted run.0.fits) run.1)

pub AreNumbered-walked : (cpus : ℕ) (events : List Happened) (stamp : ℕ) (stands : ℕ → Stand) → stands ≡ stands_after starts (take stamp events)
    → CanMerge cpus events → AreNumbered stands
AreNumbered-walked cpus events stamp stands are can =
    let counted = AreCounted-after cpus stamp [] starts events (record { events_of_cpu = λ cpu. refl; returns = λ cpu. refl }) can.is_run in
    let few : length (events_from starts (take stamp events)) < 1000000 = omega (arith, can.few_events, length-events_front events stamp) in
    subst AreNumbered (sym are) (λ cpu. calls-lt (events_from starts (take stamp events)) cpu _ _ (counted.events_of_cpu cpu) few)

-- ---- how long a line is

ended : (parts : List (List ℕ)) (most : ℕ) → length (line_text parts) ≤ most → length (lines_text (parts ∷ [])) ≤ most + 1
ended parts most short = omega (arith, short, length-append (line_text parts) (10 ∷ []))

pub header_short : (config : Config) → IsConfig config → length (lines_text (config_parts config ∷ [])) ≤ 256
header_short config is =
    omega (arith, ended (config_parts config) 15 (omega (arith, length-line_text (config_parts config), width-config config is)))

text_short : (returns : ℕ) (stand : Stand) (cpu : ℕ) (moment : Moment) → cpu < 8 → stand.calls < 1000000 → IsMoment moment
    → length (text_of returns stand cpu moment) ≤ 256
text_short returns stand cpu (Call command) below few is =
    let parts = event_parts (event.Called cpu stand.calls command) in
    omega (arith, ended parts 190 (omega (arith, length-line_text parts, width-called cpu stand.calls command below few is)))
text_short returns stand cpu (Commit given) below few is =
    let number : stand.calls - 1 < 1000000 = omega (arith, few) in
    let kept = nat_lt stand.returns returns in
    let committed = if kept then line.Keep cpu (stand.calls - 1) else line.Unfinished cpu (stand.calls - 1) given in
    let parts = line_parts committed in
    omega (
      arith,
      ended parts 184 (omega (arith, length-line_text parts, width-line committed (IsLine-commit kept cpu (stand.calls - 1) given below number is))),
    )
text_short returns stand cpu (Return given) below few is =
    let number : stand.calls - 1 < 1000000 = omega (arith, few) in
    let parts = event_parts (event.Returned cpu (stand.calls - 1) given) in
    omega (arith, ended parts 184 (omega (arith, length-line_text parts, width-returned cpu (stand.calls - 1) given below number is)))

pub moment_short : (returns : ℕ) (stand : Stand) (slot : Happened)
    → IsHappened slot → stand.calls < 1000000 → length (moment_text returns stand slot) ≤ 256
moment_short returns stand slot happened few = text_short returns stand slot.cpu slot.moment happened.cpu few happened.moment

-- memory isn't refused where there is room
pub refused_within : {T E : Type 0} (result : Result T E) (capacity len more : ℕ) → true ≡ is_err result → OnErr result (capacity < len + more)
    → len + more ≤ capacity → ⊥
refused_within (Ok value) capacity len more refused full room = cc
refused_within (Err error) capacity len more refused full room = omega (arith, full, room)
