-- Steps keep states sound, and so each state of a run is.
use Rattle.std.proofs.Common.{◌≡◌, ℕ, List, [], ◌∷◌, refl, sym, subst}
use Rattle.std.specs.Prelude.{Result, Ok, Err}
use Rattle.rmm_spec.specs.declared.accepted.Accepted.{Accepted}
use Rattle.rmm_spec.specs.declared.accepted.Accepted.TheVariants.{Done, Reaches}
use Rattle.rmm_spec.specs.declared.accepted.Stretch.{Stretch}
use Rattle.rmm_spec.specs.declared.change.Change.{Change}
use Rattle.rmm_spec.specs.declared.command.Command.{Command}
use Rattle.rmm_spec.specs.declared.refusal.Refusal.{Refusal}
use Rattle.rmm_spec.specs.declared.reply.Reply.{Reply}
use Rattle.rmm_spec.specs.HistoryText.{Config}
use Rattle.rmm_spec.specs.Call.{call_of}
use Rattle.rmm_spec.specs.Rows.{done}
use Rattle.rmm_spec.specs.State.{State, opening}
use Rattle.rmm_spec.specs.Sound.{IsSound}
use Rattle.rmm_spec.specs.Applicable.{CanApply}
use Rattle.rmm_spec.specs.Step.{outcome, CarriesOut, Step}
use Rattle.rmm_spec.specs.Step.Ripas.{IsReached, reached_change}
use Rattle.rmm_spec.specs.Run.{JournalEntry, IsRun}
use Rattle.rmm_laws.proofs.Changes.{changed_sound}
use Rattle.rmm_laws.proofs.Commands.{accepted_applies, whole_command}
use Rattle.rmm_laws.proofs.Opening.{opening_sound}

-- ---- commands

-- what a command does can be applied
pub done_applies : (s : State) (cpu : ℕ) (command : Command) (words : List ℕ) (change : Change) → IsSound s
    → outcome s cpu (call_of command) ≡ Ok (done words change) → CanApply s change
done_applies s cpu command words change sound is = accepted_applies s cpu (call_of command) (done words change) sound (whole_command command) is

-- each end that a command may reach can be applied
pub reached_applies : (s : State) (cpu : ℕ) (command : Command) (stretch : Stretch) (top : ℕ) → IsSound s
    → outcome s cpu (call_of command) ≡ Ok (Reaches stretch) → IsReached s stretch top → CanApply s (reached_change stretch top)
reached_applies s cpu command stretch top sound is = accepted_applies s cpu (call_of command) (Reaches stretch) sound (whole_command command) is top

-- ---- steps and runs

-- what an outcome leads to is sound
carried_sound : (old : State) (cpu : ℕ) (command : Command) (given : Reply) (new : State) (result : Result Accepted Refusal) → IsSound old
    → outcome old cpu (call_of command) ≡ result → CarriesOut result old given new → IsSound new
carried_sound old cpu command given new (Err refusal) sound is step = subst IsSound (sym step.1) sound
carried_sound old cpu command given new (Ok (Done words change)) sound is step =
    subst IsSound (sym step.1)
    (changed_sound old change sound (accepted_applies old cpu (call_of command) (Done words change) sound (whole_command command) is))
carried_sound old cpu command given new (Ok (Reaches stretch)) sound is step =
    subst IsSound (sym step.1.2)
    (changed_sound old (reached_change stretch step.0) sound (reached_applies old cpu command stretch step.0 sound is step.1.0))

-- a step keeps states sound
pub step_sound : (old : State) (cpu : ℕ) (command : Command) (given : Reply) (new : State)
    → IsSound old → Step old cpu command given new → IsSound new
step_sound old cpu command given new sound step = carried_sound old cpu command given new (outcome old cpu (call_of command)) sound refl step

-- a run keeps states sound
run_sound : (entries : List JournalEntry) (old last : State) → IsSound old → IsRun old entries last → IsSound last
run_sound [] old last sound run = subst IsSound (sym run) sound
run_sound (entry ∷ entries) old last sound run =
    run_sound entries run.0 last (step_sound old entry.cpu entry.command entry.given run.0 sound run.1) run.2

-- each state that a run comes to is sound
pub opened_run_sound : (config : Config) (entries : List JournalEntry) (last : State) → IsRun (opening config) entries last → IsSound last
opened_run_sound config entries last run = run_sound entries (opening config) last (opening_sound config) run
