-- Runs in parts, and that commands and replies decide a run's states.
use Rattle.rmm_laws.proofs.Common.{◌++◌, ◌∷◌, IsRun, JournalEntry, List, State, Step, [], refl, suc, zero, ℕ}
use Rattle.std.proofs.Common.{take}

-- two runs, one after the other, are one
pub run-append : (entries later : List JournalEntry) (old middle last : State)
    → IsRun old entries middle → IsRun middle later last → IsRun old (entries ++ later) last
run-append [] later old middle last run rest = rw (← run) rest
run-append (entry ∷ entries) later old middle last (next, step, run) rest = (next, step, run-append entries later next middle last run rest)

-- a run that is one step longer
pub run-snoc : (entries : List JournalEntry) (entry : JournalEntry) (old middle last : State)
    → IsRun old entries middle → Step middle entry.cpu entry.command entry.given last → IsRun old (entries ++ entry ∷ []) last
run-snoc entries entry old middle last run step = run-append entries (entry ∷ []) old middle last run (last, step, refl)

-- each first part of a run is a run
pub run-take : (count : ℕ) (entries : List JournalEntry) (old last : State)
    → IsRun old entries last → (middle : State) × IsRun old (take count entries) middle
run-take zero entries old last run = (old, refl)
run-take (suc count) [] old last run = (old, refl)
run-take (suc count) (entry ∷ entries) old last (next, step, run) =
    let part = run-take count entries next last run in (part.0, (next, step, part.1))
