-- How often a CPU has called and returned, against its part of the history.
use Rattle.merging.proofs.Common.{◌++◌, ◌+◌, ◌<◌, ◌∙◌, ◌≡◌, ◌≤◌, Call, Commit, Happened, List, Moment, Return, Stand, ap, append-nil, arith, events_of, false, length, lines_of, refl, stands_with, subst, sym, ℕ}
use Rattle.std.proofs.Common.{◌-◌, Bool, true, ◌==◌, if◌then◌else◌, ⊎_elim}
use Rattle.std.proofs.lemmas.Bool.{cases_eq, eq-eqb, ne_eqb}
use Rattle.std.proofs.lemmas.List.{length_push}
use Rattle.std.proofs.lemmas.List.Sums.{length-filter, count_by-le-length}
use Rattle.rmm_spec.specs.CertificateText.{IsLine}
use Rattle.rmm_spec.specs.declared.line.Line.TheVariants as line
use Rattle.rmm_spec.specs.declared.command.Command.{Command}
use Rattle.rmm_spec.specs.declared.reply.Reply.{Reply}
use Rattle.rmm_spec.specs.declared.event.Event.{Event}
use Rattle.rmm_spec.specs.declared.event.Event.TheVariants.{Called, Returned}
use Rattle.rmm_spec.specs.CommandText.{IsCommand, IsReply}
use Rattle.rmm_spec.specs.HistoryText.{History, IsHistory, CanFollow, subhistory_of, cpu_of}
use Rattle.spec_lemmas.proofs.Records.{subhistory_of-push_same, subhistory_of-push_other}
use Rattle.history.proofs.SubhistoryLaws.{goes_on}
use Rattle.merging.specs.Run.{Phase, Idle, Committed, Fits, phase_after, call_count, return_count, event_count, line_count, stand_after}
use Rattle.merging.specs.Run as run

-- a CPU that isn't idle has a call open
abbrev pub open_count : Phase → ℕ
open_count Idle = 0
open_count run.Called = 1
open_count (Committed given) = 1

-- each CPU has called and returned as often as its part of the history says
pub record AreCounted (events : List Event) (stands : ℕ → Stand) : Type 0 where
  pub events_of_cpu : (cpu : ℕ) → length (subhistory_of cpu events) + open_count (stands cpu).phase ≡ (stands cpu).calls + (stands cpu).calls
  pub returns : (cpu : ℕ) → (stands cpu).returns + open_count (stands cpu).phase ≡ (stands cpu).calls

-- a moment that fits keeps the counts
module _ (calls returns events : ℕ) where
  counts : (phase : Phase) (moment : Moment) → Fits phase moment → events + open_count phase ≡ calls + calls → returns + open_count phase ≡ calls
      → (events + event_count moment + open_count (phase_after moment) ≡ (calls + call_count moment) + (calls + call_count moment))
      × (returns + return_count moment + open_count (phase_after moment) ≡ calls + call_count moment)
  counts Idle (Call command) fits e f = (omega (arith, e, f), omega (arith, e, f))
  counts Idle (Commit given) fits e f = absurd fits
  counts Idle (Return given) fits e f = absurd fits
  counts run.Called (Call command) fits e f = absurd fits
  counts run.Called (Commit given) fits e f = (omega (arith, e, f), omega (arith, e, f))
  counts run.Called (Return given) fits e f = absurd fits
  counts (Committed committed) (Call command) fits e f = absurd fits
  counts (Committed committed) (Commit given) fits e f = absurd fits
  counts (Committed committed) (Return given) fits e f = (omega (arith, e, f), omega (arith, e, f))

-- the events of a moment are its CPU's
length-own : (events : List Event) (stand : Stand) (cpu : ℕ) (moment : Moment)
    → length (subhistory_of cpu (events ++ events_of stand cpu moment)) ≡ length (subhistory_of cpu events) + event_count moment
length-own events stand cpu (Call command) =
    let event = Called cpu stand.calls command in
    ap length (subhistory_of-push_same cpu events event refl) ∙ length_push (subhistory_of cpu events) event
length-own events stand cpu (Commit given) =
    let none : length (subhistory_of cpu events) ≡ length (subhistory_of cpu events) + 0 = omega arith in
    ap (λ (es : List Event). length (subhistory_of cpu es)) (append-nil events) ∙ none
length-own events stand cpu (Return given) =
    let event = Returned cpu (stand.calls - 1) given in
    ap length (subhistory_of-push_same cpu events event refl) ∙ length_push (subhistory_of cpu events) event

subhistory_of-others : (events : List Event) (stand : Stand) (cpu other : ℕ) (moment : Moment) → (cpu ≡ other → ⊥)
    → subhistory_of other (events ++ events_of stand cpu moment) ≡ subhistory_of other events
subhistory_of-others events stand cpu other (Call command) apart =
    subhistory_of-push_other other events (Called cpu stand.calls command) (ne_eqb cpu other apart)
subhistory_of-others events stand cpu other (Commit given) apart = ap (subhistory_of other) (append-nil events)
subhistory_of-others events stand cpu other (Return given) apart =
    subhistory_of-push_other other events (Returned cpu (stand.calls - 1) given) (ne_eqb cpu other apart)

-- all CPUs are counted after a moment that fits
pub AreCounted-step : (events : List Event) (stands : ℕ → Stand) (slot : Happened)
    → AreCounted events stands → Fits (stands slot.cpu).phase slot.moment
    → AreCounted (events ++ events_of (stands slot.cpu) slot.cpu slot.moment) (stands_with stands slot)
AreCounted-step events stands slot counted fits =
    let stand = stands slot.cpu in
    let own = events_of stand slot.cpu slot.moment in
    let both = counts stand.calls stand.returns (length (subhistory_of slot.cpu events)) stand.phase slot.moment fits
    (counted.events_of_cpu slot.cpu) (counted.returns slot.cpu) in
    let chosen = λ (cpu : ℕ) (s : Stand). length (subhistory_of cpu (events ++ own)) + open_count s.phase ≡ s.calls + s.calls in
    let returned = λ (s : Stand). s.returns + open_count s.phase ≡ s.calls in
    record {
      events_of_cpu = λ cpu.
          ⊎_elim
          (λ (same : cpu ≡ slot.cpu).
          subst (λ s. chosen cpu s) (ap (λ b. if b then stand_after stand slot else stands cpu) (sym (eq-eqb cpu slot.cpu same)))
          (subst (λ c. chosen c (stand_after stand slot)) (sym same) (omega (arith, both.0, length-own events stand slot.cpu slot.moment))))
          (λ (other : cpu ≡ slot.cpu → ⊥).
          subst (λ s. chosen cpu s) (ap (λ b. if b then stand_after stand slot else stands cpu) (sym (ne_eqb cpu slot.cpu other)))
          (ap (λ (es : List Event). length es + open_count (stands cpu).phase)
          (subhistory_of-others events stand slot.cpu cpu slot.moment (λ e. other (sym e))) ∙ counted.events_of_cpu cpu))
          (cases_eq cpu slot.cpu);
      returns = λ cpu.
          ⊎_elim
          (λ (same : cpu ≡ slot.cpu).
          subst (λ s. returned s) (ap (λ b. if b then stand_after stand slot else stands cpu) (sym (eq-eqb cpu slot.cpu same))) both.1)
          (λ (other : cpu ≡ slot.cpu → ⊥).
          subst (λ s. returned s)
          (ap (λ b. if b then stand_after stand slot else stands cpu) (sym (ne_eqb cpu slot.cpu other))) (counted.returns cpu))
          (cases_eq cpu slot.cpu);
    }

-- ---- the event of a moment that fits may follow

pub CanFollow-call : (history : History) (cpu number : ℕ) (command : Command) → IsHistory history → cpu < history.config.cpus → IsCommand command
    → length (subhistory_of cpu history.events) ≡ number + number → CanFollow history (Called cpu number command)
CanFollow-call history cpu number command is_history below is_command next = record {
  is_event = (below, is_command);
  record_goes_on = goes_on history.events (Called cpu number command) (is_history.records cpu) (sym next);
}

pub CanFollow-return : (history : History) (cpu number : ℕ) (given : Reply) → IsHistory history → cpu < history.config.cpus → IsReply given
    → length (subhistory_of cpu history.events) ≡ number + number + 1 → CanFollow history (Returned cpu number given)
CanFollow-return history cpu number given is_history below is_reply next = record {
  is_event = (below, is_reply);
  record_goes_on = goes_on history.events (Returned cpu number given) (is_history.records cpu) (sym next);
}

-- a call's number has a text
open_count-le : (phase : Phase) → open_count phase ≤ 1
open_count-le Idle = omega arith
open_count-le run.Called = omega arith
open_count-le (Committed given) = omega arith

pub calls-lt : (events : List Event) (cpu calls : ℕ) (phase : Phase) → length (subhistory_of cpu events) + open_count phase ≡ calls + calls
    → length events < 1000000 → calls < 1000000
calls-lt events cpu calls phase counted few =
    omega (
      arith,
      counted,
      few,
      open_count-le phase,
      length-filter (λ e. cpu_of e == cpu) events,
      count_by-le-length (λ e. cpu_of e == cpu) events,
    )

pub IsLine-commit : (is_kept : Bool) (cpu number : ℕ) (given : Reply) → cpu < 8 → number < 1000000 → IsReply given
    → IsLine (if is_kept then line.Keep cpu number else line.Unfinished cpu number given)
IsLine-commit true cpu number given below few is_reply = (below, few)
IsLine-commit false cpu number given below few is_reply = (below, few, is_reply)

-- ---- how many events and lines a moment makes

pub length-events_of : (stand : Stand) (cpu : ℕ) (moment : Moment) → length (events_of stand cpu moment) ≡ event_count moment
length-events_of stand cpu (Call command) = refl
length-events_of stand cpu (Commit given) = refl
length-events_of stand cpu (Return given) = refl

pub length-lines_of : (returns : ℕ) (stand : Stand) (cpu : ℕ) (moment : Moment) → length (lines_of returns stand cpu moment) ≡ line_count moment
length-lines_of returns stand cpu (Call command) = refl
length-lines_of returns stand cpu (Commit given) = refl
length-lines_of returns stand cpu (Return given) = refl
