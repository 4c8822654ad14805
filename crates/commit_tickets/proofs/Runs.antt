-- Runs, one commit longer.
use Rattle.commit_tickets.proofs.Common.{◌≡◌, ℕ, List, [], ◌∷◌, ◌++◌, Some, map, refl, sym, ap, ◌∙◌, subst, map-append, Command, Reply, State, Step, JournalEntry, IsRun, Entry, entry_of}
use Rattle.rmm_laws.proofs.Replays.{run-replay}

-- a run goes on by one step from its last state
IsRun-push : (old : State) (entries : List JournalEntry) (entry : JournalEntry) (last next : State) → IsRun old entries last
    → Step last entry.cpu entry.command entry.given next → IsRun old (entries ++ entry ∷ []) next
IsRun-push old [] entry last next run step = (next, subst (λ (s : State). Step s entry.cpu entry.command entry.given next) run step, refl)
IsRun-push old (first ∷ entries) entry last next run step = (run.0, run.1, IsRun-push run.0 entries entry last next run.2 step)

-- the journal goes on by the step of its books, for which its new entry stands
pub IsRun-append : (old : State) (entries new : List (Entry ℕ)) (added : Entry ℕ) (last next : State)
    → IsRun old (map entry_of entries) last → Step last added.mark added.command added.given next → new ≡ entries ++ added ∷ []
    → IsRun old (map entry_of new) next
IsRun-append old entries new added last next run step is_new =
    let is_longer : map entry_of new ≡ map entry_of entries ++ entry_of added ∷ [] =
    ap (map entry_of) is_new ∙ map-append entry_of entries (added ∷ []) in
    subst (λ (es : List JournalEntry). IsRun old es next) (sym is_longer)
    (IsRun-push old (map entry_of entries) (entry_of added) last next run step)

-- a run has one end: what isn't given there is given at none
pub refused-at_end : (old : State) (entries : List JournalEntry) (end : State) (cpu : ℕ) (command : Command) (given : Reply) → IsRun old entries end
    → ((next : State) → Step end cpu command given next → ⊥) → (last next : State) → IsRun old entries last → Step last cpu command given next → ⊥
refused-at_end old entries end cpu command given run none last next other step =
    let same : Some end ≡ Some last = sym (run-replay entries old end run) ∙ run-replay entries old last other in
    let is : last ≡ end = cc in
    none next (subst (λ (s : State). Step s cpu command given next) is step)
