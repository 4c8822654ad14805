-- How often each condition refused, as lines.
use Rattle.std.specs.Prelude.{◌≡◌, ℕ, ◌==◌, List, [], ◌∷◌, ◌++◌, map, codes, Option, Some, None, if◌then◌else◌}
use Rattle.rmm_spec.specs.declared.condition.Condition.{Condition}
use Rattle.rmm_spec.specs.declared.function_id.FunctionId.{FunctionId}
use Rattle.rmm_spec.specs.Text.{decimal}
use Rattle.reasons.specs.Names.{condition_name}
use Rattle.run_steps.specs.Counts.{counts_at}
use Rattle.run_steps.specs.Places.{conditions}
use Rattle.run_steps.specs.declared.condition_counts.ConditionCounts.{ConditionCounts}

-- what a line says of an answer
abbrev pub answer_name : Option Condition → List ℕ
answer_name None = codes "accepted"
answer_name (Some failing) = condition_name failing

-- a line of a command, an answer and a count, with spaces between and a newline; none where the count is 0
abbrev pub count_line : List ℕ → List ℕ → ℕ → List ℕ
count_line command answer count = if count == 0 then [] else command ++ (32 ∷ (answer ++ (32 ∷ (decimal count ++ (10 ∷ [])))))

-- of some answers to a function, in their order
abbrev pub answer_lines : List ℕ → ConditionCounts → FunctionId → List (Option Condition) → List ℕ
answer_lines command counts called [] = []
answer_lines command counts called (answer ∷ others) =
    count_line command (answer_name answer) (counts_at counts called answer) ++ answer_lines command counts called others

-- of a function: what is accepted, and then each condition
unfoldable pub function_lines : List ℕ → ConditionCounts → FunctionId → List ℕ
function_lines command counts called = answer_lines command counts called (None ∷ map Some conditions)

-- of some functions, each with a name of its own
abbrev pub AreCountLines : ConditionCounts → List FunctionId → List ℕ → Type 0
AreCountLines counts [] text = text ≡ []
AreCountLines counts (called ∷ others) text =
    (command more : List ℕ) × (text ≡ function_lines command counts called ++ more) × AreCountLines counts others more
