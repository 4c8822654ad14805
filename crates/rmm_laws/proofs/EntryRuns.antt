-- The commits of one more line, and the state that the first lines of a run lead to.
use Rattle.rmm_laws.proofs.Common.{◌++◌, ◌∷◌, ◌≡◌, IsRun, JournalEntry, List, Reply, Some, State, Step, [], subst, suc, sym, zero, ℕ, ◌∙◌}
use Rattle.std.proofs.Common.{take}
use Rattle.std.specs.List.{slice_get}
use Rattle.std.proofs.lemmas.Option.{none-some, same_Some}
use Rattle.rmm_spec.specs.declared.command.Command.{Command}
use Rattle.rmm_spec.specs.declared.event.Event.{Event}
use Rattle.rmm_spec.specs.declared.line.Line.{Line}
use Rattle.rmm_laws.proofs.StepLaws.{step-decides}
use Rattle.rmm_spec.specs.Linearization.{IsEntryOf, AreEntriesOf}
use Rattle.rmm_spec.specs.FirstFault.{IsRefused}
use Rattle.spec_lemmas.proofs.Calls.{HasOnePlaces, SameEntries, same_entry}

-- one more line claims one more commit
pub AreEntriesOf-push : (events : List Event) (lines : List Line) (entries : List JournalEntry) (line : Line) (entry : JournalEntry)
    → AreEntriesOf events lines entries → IsEntryOf events line entry
    → AreEntriesOf events (lines ++ line ∷ []) (entries ++ entry ∷ [])
AreEntriesOf-push events [] [] line entry claimed last = (last, tt)
AreEntriesOf-push events [] (e ∷ entries) line entry claimed last = absurd claimed
AreEntriesOf-push events (l ∷ lines) [] line entry claimed last = absurd claimed
AreEntriesOf-push events (l ∷ lines) (e ∷ entries) line entry claimed last =
    (claimed.0, AreEntriesOf-push events lines entries line entry claimed.1 last)

-- the same commit leads to the same state
pub same_step : (old : State) (entry other : JournalEntry) (new next : State) → SameEntries entry other
    → Step old entry.cpu entry.command entry.given new → Step old other.cpu other.command other.given next → new ≡ next
same_step old entry other new next same here there =
    let there2 : Step old entry.cpu entry.command entry.given next =
    subst (λ (cpu : ℕ). Step old cpu entry.command entry.given next) (sym same.cpu)
    (subst (λ (command : Command). Step old other.cpu command entry.given next) (sym same.command)
    (subst (λ (given : Reply). Step old other.cpu other.command given next) (sym same.given) there)) in
    step-decides old new next entry.cpu entry.command entry.given here there2

-- where all lines have a run, the machine refuses no line in the state that the lines before it lead to
pub not-IsRefused : (events : List Event) → HasOnePlaces events → (lines : List Line) (entries : List JournalEntry)
    (start last : State) → AreEntriesOf events lines entries → IsRun start entries last
    → (index : ℕ) (line : Line) (earlier : List JournalEntry) (old : State) → slice_get lines index ≡ Some line
    → AreEntriesOf events (take index lines) earlier → IsRun start earlier old → IsRefused events old line → ⊥
not-IsRefused events one [] entries start last claimed run index line earlier old is before led refused = none-some line is
not-IsRefused events one (l ∷ lines) [] start last claimed run index line earlier old is before led refused = absurd claimed
not-IsRefused events one (l ∷ lines) (e ∷ entries) start last claimed run zero line [] old is before led refused =
    refused e run.0
    (subst (λ (x : Line). IsEntryOf events x e) (same_Some l line is) claimed.0)
    (subst (λ (s : State). Step s e.cpu e.command e.given run.0) (sym led) run.1)
not-IsRefused events one (l ∷ lines) (e ∷ entries) start last claimed run zero line (b ∷ earlier) old is before led refused = absurd before
not-IsRefused events one (l ∷ lines) (e ∷ entries) start last claimed run (suc index) line [] old is before led refused = absurd before
not-IsRefused events one (l ∷ lines) (e ∷ entries) start last claimed run (suc index) line (b ∷ earlier) old is before led refused =
    let same = same_step start e b run.0 led.0 (same_entry events one l e b claimed.0 before.0) run.1 led.1 in
    not-IsRefused events one lines entries led.0 last claimed.1 (subst (λ (s : State). IsRun s entries last) same run.2)
    index line earlier old is before.1 led.2 refused

-- lines lead to one state
pub same_state : (events : List Event) → HasOnePlaces events → (lines : List Line) (es fs : List JournalEntry) (start one other : State)
    → AreEntriesOf events lines es → IsRun start es one → AreEntriesOf events lines fs → IsRun start fs other → one ≡ other
same_state events places [] [] [] start one other here run there ran = run ∙ sym ran
same_state events places [] (e ∷ es) fs start one other here run there ran = absurd here
same_state events places [] [] (f ∷ fs) start one other here run there ran = absurd there
same_state events places (l ∷ lines) [] fs start one other here run there ran = absurd here
same_state events places (l ∷ lines) (e ∷ es) [] start one other here run there ran = absurd there
same_state events places (l ∷ lines) (e ∷ es) (f ∷ fs) start one other here run there ran =
    let same = same_step start e f run.0 ran.0 (same_entry events places l e f here.0 there.0) run.1 ran.1 in
    same_state events places lines es fs ran.0 one other here.1 (subst (λ (s : State). IsRun s es one) same run.2) there.1 ran.2
