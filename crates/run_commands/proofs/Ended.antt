-- How the program ends after an answer.
use Rattle.std.proofs.Common.{◌≡◌, ℕ, List, Result}
use Rattle.std.specs.Borrow.{Bor}
use Rattle.rmm_spec.specs.declared.verdict.Verdict.{Verdict}
use Rattle.run_commands.specs.declared.play_fault.PlayFault.{PlayFault}
use Rattle.run_commands.specs.declared.fault.ProgramFault.{ProgramFault}
use Rattle.run_commands.specs.Sources.{EndsPlay, played}

-- it was the answer to the source of the file
pub EndsPlay-answer : {IsAnswer : Result Verdict PlayFault → Type 0} (path : Bor (List ℕ)) (answer : Result Verdict PlayFault)
    (ended : Result Verdict ProgramFault) → IsAnswer answer → ended ≡ played path answer → EndsPlay IsAnswer path ended
EndsPlay-answer path answer ended is_answer is_end = record { answer = answer; is_answer = is_answer; is_end = is_end }
