-- How often each condition refused.
use Rattle.std.specs.Prelude.{◌≡◌, ◌==◌, ℕ, List, Option, count_by, slice_index}
use Rattle.rmm_spec.specs.declared.condition.Condition.{Condition}
use Rattle.rmm_spec.specs.declared.function_id.FunctionId.{FunctionId}
use Rattle.rmm_spec.specs.declared.line.Line.{Line}
use Rattle.rmm_spec.specs.HistoryText.{History}
use Rattle.run_steps.specs.Places.{place_of, place_told}
use Rattle.run_steps.specs.Replayed.{AreReplayed, Told}
use Rattle.run_steps.specs.declared.condition_counts.ConditionCounts.{ConditionCounts}

-- how many of the lines call the function and are refused for the condition, or are accepted
abbrev pub count_of : List Told → FunctionId → Option Condition → ℕ
count_of told function refused = count_by (λ line. place_told line == place_of function refused) told

-- what is counted of them
abbrev pub counts_at : ConditionCounts → FunctionId → Option Condition → ℕ
counts_at counts function refused = slice_index counts.counts.items (place_of function refused)

-- Of the lines that are replayed each count is that of those which are told so.
pub record AreCountsOf (history : History) (lines : List Line) (counts : ConditionCounts) : Type 0 where
  pub told : List Told
  pub replayed : AreReplayed history lines counts.replayed told
  pub counted : (function : FunctionId) (refused : Option Condition) → counts_at counts function refused ≡ count_of told function refused
