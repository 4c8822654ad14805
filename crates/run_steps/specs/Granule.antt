-- What is told of a granule.
use Rattle.std.specs.Prelude.{◌≡◌, ℕ, All, List, map}
use Rattle.rmm_spec.specs.declared.line.Line.{Line}
use Rattle.rmm_spec.specs.HistoryText.{History}
use Rattle.explain.specs.Told.{IsTold, NamesAt}
use Rattle.run_steps.specs.Replayed.{AreReplayed, Told}
use Rattle.run_steps.specs.Touched.{Mark, marks_from}
use Rattle.run_steps.specs.declared.granule_history.GranuleHistory.{GranuleHistory}
use Rattle.run_steps.specs.declared.granule_history.GranuleStep.{GranuleStep}
use Rattle.run_steps.specs.declared.replay.Taken.{Taken}

-- what is told of a line that is taken
abbrev pub told_of : Taken → Told
told_of taken = record { command = taken.call.call.command; answer = taken.outcome }

abbrev pub mark_of : GranuleStep → Mark
mark_of told = record { step = told.step; is_changed = told.is_changed }

-- the line of the step names the call
abbrev pub IsNamedStep : History → List Line → GranuleStep → Type 0
IsNamedStep history lines told = NamesAt lines told.step told.call.cpu told.call.number × IsTold history.events told.call

-- Of the lines that are replayed those are told that touch the granule or whose command names it, each with its call.
pub record IsHistoryOf (history : History) (lines : List Line) (granule : ℕ) (of_granule : GranuleHistory) : Type 0 where
  pub is_granule : of_granule.granule ≡ granule
  pub told : List Told
  pub replayed : AreReplayed history lines of_granule.replayed told
  pub steps : map mark_of of_granule.steps.items ≡ marks_from granule 1 told
  pub calls : All (IsNamedStep history lines) of_granule.steps.items
