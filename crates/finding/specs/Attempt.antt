-- Which line is tried next for a call, and what is left behind it.
use Rattle.std.specs.Prelude.{◌≡◌, ℕ, ◌+◌, ◌≤◌, ◌⊎◌, List, [], ◌∷◌, ◌++◌, Option, Some, None, Result}
use Rattle.rmm_spec.specs.declared.accepted.Accepted.{Accepted}
use Rattle.rmm_spec.specs.declared.command.Command.{Command}
use Rattle.rmm_spec.specs.declared.line.Line.{Line}
use Rattle.rmm_spec.specs.declared.line.Line.TheVariants.{Unfinished}
use Rattle.rmm_spec.specs.declared.refusal.Refusal.{Refusal}
use Rattle.rmm_spec.specs.Call.{call_of}
use Rattle.rmm_spec.specs.CertificateText.{IsLine}
use Rattle.rmm_spec.specs.HistoryText.{History, IsHistory}
use Rattle.rmm_spec.specs.Rows.{ok}
use Rattle.rmm_spec.specs.State.{State}
use Rattle.rmm_spec.specs.Step.{outcome}
use Rattle.rmm_spec.specs.Linearization.{IsCalled, IsOfItsKind, cpu_named, number_named}
use Rattle.history.specs.Calls.{ArePlacesOf}
use Rattle.verdict_laws.specs.Order.{LeadsNowhere, Reaches, count_of}
use Rattle.finding.specs.Choice.{rank_of}
use Rattle.finding.specs.Tried.{CallLeadsNowhere}
use Rattle.finding.specs.declared.attempt.Attempt.{Attempt}
use Rattle.finding.specs.declared.choice.Choice.{Choice}
use Rattle.finding.specs.declared.left.Left.{Left}

-- the call's lines with an end of its stretch that isn't below the bound, where there is one, lead nowhere
abbrev pub EndsLeadNowhere : History → List Line → Choice → Option ℕ → Type 0
EndsLeadNowhere history lines choice above =
    (end bound : ℕ) → above ≡ Some bound → bound ≤ end → LeadsNowhere history (lines ++ Unfinished choice.cpu choice.number (ok (end ∷ [])) ∷ [])

-- the call is the next of its CPU behind lines that lead to the state
pub record MayTry (history : History) (lines : List Line) (state : State) (choice : Choice) (above : Option ℕ) : Type 0 where
  pub is_history : IsHistory history
  pub reached : Reaches history lines state
  pub places : ArePlacesOf history.events choice.cpu choice.number choice.places
  pub numbered : choice.number ≡ count_of choice.cpu lines
  pub ended : EndsLeadNowhere history lines choice above

-- the command is that of a call that hasn't returned, and this is what the specification answers it in the state
pub record IsAnswered (history : History) (choice : Choice) (state : State) (command : Command) (answer : Result Accepted Refusal) : Type 0 where
  pub pending : choice.places.returned ≡ None
  pub is_called : IsCalled history.events choice.places.called choice.cpu choice.number command
  pub answered : answer ≡ outcome state choice.cpu (call_of command)

-- no other line of the call is left to try
pub record IsPassed (history : History) (lines : List Line) (choice : Choice) (left : Left) : Type 0 where
  pub from : left.from ≡ rank_of choice + 1
  pub above : left.above ≡ None
  pub nowhere : CallLeadsNowhere history lines choice.cpu choice.number

-- lower ends of the call's stretch are left to try
pub record IsEnded (history : History) (lines : List Line) (choice : Choice) (left : Left) : Type 0 where
  pub from : left.from ≡ rank_of choice
  pub pending : choice.places.returned ≡ None
  pub nowhere : EndsLeadNowhere history lines choice left.above

-- The line is one of the call, and has a text. Where it leads nowhere, what is left behind it is known.
pub record IsAttempt (history : History) (lines : List Line) (choice : Choice) (attempt : Attempt) : Type 0 where
  pub is_line : IsLine attempt.line
  pub of_cpu : cpu_named attempt.line ≡ choice.cpu
  pub numbered : number_named attempt.line ≡ choice.number
  pub kind : IsOfItsKind history.events attempt.line
  pub left : LeadsNowhere history (lines ++ attempt.line ∷ [])
      → IsPassed history lines choice attempt.left ⊎ IsEnded history lines choice attempt.left

-- the next line of the call, or all of them lead nowhere
abbrev pub IsTriedNext : History → List Line → Choice → Option Attempt → Type 0
IsTriedNext history lines choice None = CallLeadsNowhere history lines choice.cpu choice.number
IsTriedNext history lines choice (Some attempt) = IsAttempt history lines choice attempt
