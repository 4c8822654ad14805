-- The lines of counts, one by one.
use Rattle.std.proofs.Common.{◌≡◌, ℕ, ◌+◌, List, [], ◌∷◌, ◌++◌, map, take, Option, Some, Result, Ok, Err, refl, sym, ◌∙◌, ap}
use Rattle.std.specs.List.{slice_get}
use Rattle.std.specs.Prelude.{OnOk}
use Rattle.std.proofs.lemmas.List.{append-nil, append_assoc, map_push}
use Rattle.rmm_spec.specs.declared.condition.Condition.{Condition}
use Rattle.rmm_spec.specs.declared.function_id.FunctionId.{FunctionId}
use Rattle.lemmas.proofs.Elements.{take-next_at}
use Rattle.reasons.specs.Names.{condition_name}
use Rattle.run_steps.specs.declared.condition_counts.ConditionCounts.{ConditionCounts}
use Rattle.run_steps.specs.Counts.{counts_at}
use Rattle.run_steps.specs.CountLines.{AreCountLines, answer_lines, answer_name, count_line, function_lines}

-- with the line of one answer more
pub answer_lines-push : (command : List ℕ) (counts : ConditionCounts)
    (called : FunctionId) (answers : List (Option Condition)) (answer : Option Condition)
    → answer_lines command counts called (answers ++ answer ∷ [])
    ≡ answer_lines command counts called answers ++ count_line command (answer_name answer) (counts_at counts called answer)
answer_lines-push command counts called [] answer = append-nil _
answer_lines-push command counts called (first ∷ answers) answer =
    ap (λ (text : List ℕ). count_line command (answer_name first) (counts_at counts called first) ++ text)
    (answer_lines-push command counts called answers answer)
    ∙ sym (append_assoc (count_line command (answer_name first) (counts_at counts called first)) _ _)

-- with that of the condition at the place
pub answer_lines-more : (command : List ℕ) (counts : ConditionCounts) (called : FunctionId) (list : List Condition) (i : ℕ) (failing : Condition)
    → slice_get list i ≡ Some failing
    → answer_lines command counts called (map Some (take (i + 1) list))
    ≡ answer_lines command counts called (map Some (take i list))
    ++ count_line command (condition_name failing) (counts_at counts called (Some failing))
answer_lines-more command counts called list i failing is =
    ap (λ (xs : List Condition). answer_lines command counts called (map Some xs)) (take-next_at list i failing is)
    ∙ ap (answer_lines command counts called) (map_push Some (take i list) failing)
    ∙ answer_lines-push command counts called (map Some (take i list)) (Some failing)

-- what is appended twice is appended at once
pub appended_on : (old first second mid new : List ℕ) → mid ≡ old ++ first → new ≡ mid ++ second → new ≡ old ++ (first ++ second)
appended_on old first second mid new here there = there ∙ ap (λ (t : List ℕ). t ++ second) here ∙ append_assoc old first second

pub appended_ok : {X E : Type 0} (result : Result X E) (old first second mid new : List ℕ) → mid ≡ old ++ first → OnOk result (new ≡ mid ++ second)
    → OnOk result (new ≡ old ++ (first ++ second))
appended_ok (Ok x) old first second mid new here there = appended_on old first second mid new here there
appended_ok (Err e) old first second mid new here there = tt

-- with those of one function more
pub AreCountLines-push : (counts : ConditionCounts) (functions : List FunctionId) (called : FunctionId) (text command : List ℕ)
    → AreCountLines counts functions text
    → AreCountLines counts (functions ++ called ∷ []) (text ++ function_lines command counts called)
AreCountLines-push counts [] called text command are =
    let lines = function_lines command counts called in
    (command, [], ap (λ (t : List ℕ). t ++ lines) are ∙ sym (append-nil lines), refl)
AreCountLines-push counts (first ∷ functions) called text command (name, more, is, are) =
    let lines = function_lines command counts called in (
      name,
      more ++ lines,
      ap (λ (t : List ℕ). t ++ lines) is ∙ append_assoc (function_lines name counts first) more lines,
      AreCountLines-push counts functions called more command are,
    )

pub AreCountLines-more : (counts : ConditionCounts) (list : List FunctionId) (i : ℕ) (called : FunctionId) (text command : List ℕ)
    → slice_get list i ≡ Some called
    → AreCountLines counts (take i list) text → AreCountLines counts (take (i + 1) list) (text ++ function_lines command counts called)
AreCountLines-more counts list i called text command is are =
    rw (take-next_at list i called is) (AreCountLines-push counts (take i list) called text command are)
