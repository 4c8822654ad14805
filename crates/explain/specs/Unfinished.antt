-- The calls that never returned.
use Rattle.std.specs.Prelude.{◌≡◌, ◌⊎◌, ℕ, zero, suc, List, [], ◌∷◌, ◌++◌, MatchOption}
use Rattle.rmm_spec.specs.declared.command.Command.{Command}
use Rattle.rmm_spec.specs.declared.event.Event.{Event}
use Rattle.rmm_spec.specs.declared.line.Line.{Line}
use Rattle.rmm_spec.specs.Linearization.{IsCalled, IsFinished}
use Rattle.history.specs.Calls.{line_at}
use Rattle.reasons.specs.declared.named_call.UnfinishedCall.{UnfinishedCall}
use Rattle.explain.specs.Told.{HasLine, IsTold, Names, NamesAt}

-- what is told of the call that is made at the place: it never returned, and which line names it, if one does
pub record IsUnfinished (events : List Event) (lines : List Line) (place : ℕ) (open_call : UnfinishedCall) : Type 0 where
  pub told : IsTold events open_call.call
  pub made : open_call.call.call.called ≡ line_at place
  pub unfinished : ¬ IsFinished events open_call.call.cpu open_call.call.number
  pub named : MatchOption open_call.step (¬ HasLine lines (Names open_call.call.cpu open_call.call.number))
      (λ step. NamesAt lines step open_call.call.cpu open_call.call.number)

-- Of the first places exactly those of calls that never returned are told, each once and in their order.
abbrev pub AreUnfinished : List Event → List Line → ℕ → List UnfinishedCall → Type 0
AreUnfinished events lines zero calls = calls ≡ []
AreUnfinished events lines (suc place) calls =
    ((before : List UnfinishedCall) × AreUnfinished events lines place before
    × (last : UnfinishedCall) × (calls ≡ before ++ (last ∷ [])) × IsUnfinished events lines place last)
    ⊎ (AreUnfinished events lines place calls
    × ((cpu number : ℕ) (command : Command) → IsCalled events place cpu number command → IsFinished events cpu number))
