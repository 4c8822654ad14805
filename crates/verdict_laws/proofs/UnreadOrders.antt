-- Orders of a history's calls, and those of the history in which each reading of a measurement extends one.
use Rattle.verdict_laws.proofs.Common.{◌≡◌, ℕ, zero, suc, ◌<◌, true, List, [], ◌∷◌, ◌++◌, map, Some, refl, sym, ◌∙◌, ap, subst, slice_get, none-some, same_Some, Command, Event, Line, Keep, Unfinished, Reply, History, IsHistory, State, opening, JournalEntry, IsReturned, IsFinished, IsNamed, IsOfItsKind, NamesCall, ReturnsBefore, IsEntryOf, AreEntriesOf, IsLinearization, cpu_named, number_named, count_of, LeadsNowhere, HasOnePlaces-from_history}
use Rattle.rmm_spec.specs.Linearization.{NamesSame, KeepsRealTime}
use Rattle.rmm_laws.proofs.Opening.{opening_sound}
use Rattle.rmm_laws.proofs.Runs.{opened_run_sound}
use Rattle.spec_lemmas.proofs.Calls.{same_command, same_entry}
use Rattle.verdict_laws.specs.Order.{Reaches, Grows}
use Rattle.verdict_laws.specs.Unread.{unmeasured, is_extending, unread_command, unread_reply, IsUnread, ReadsNothing}
use Rattle.verdict_laws.proofs.Settled.{GoesOnWithout, nowhere_first}
use Rattle.verdict_laws.proofs.Configurations.{nowhere_beside}
use Rattle.verdict_laws.proofs.Unmeasured.{extended_step-unmeasured}
use Rattle.verdict_laws.proofs.UnreadEvents.{unread_entry, run-unmeasured, run-reads_nothing, run-without_extension, call_there, return_there, call_back, return_back}

-- ---- where no measurement is read

-- an order leads nowhere where one of the same calls does that leads to a state which differs in measurements alone
pub nowhere_unmeasured : (history : History) → IsHistory history → ReadsNothing history.events → (one other : List Line) (state also : State)
    → Reaches history one state → Reaches history other also → ((cpu : ℕ) → count_of cpu one ≡ count_of cpu other)
    → unmeasured state ≡ unmeasured also → LeadsNowhere history one → LeadsNowhere history other
nowhere_unmeasured history is_history nothing one other state also reached beside counts same =
    let sound = opened_run_sound history.config beside.passes.entries also beside.passes.run.run in
    nowhere_beside history is_history one other state also reached beside counts (λ lines entries last claimed run.
    run-reads_nothing history.events nothing lines entries also state last sound (sym same) claimed run)

-- an extension that can come next, and is given its reply there, may come next at once
pub nowhere_extended : (history : History) (lines : List Line) (state new : State) (cpu number : ℕ) → IsHistory history
    → ReadsNothing history.events → Reaches history lines state → (grows : Grows history lines state (Keep cpu number) new)
    → is_extending grows.entry.command ≡ true → LeadsNowhere history (lines ++ Keep cpu number ∷ []) → LeadsNowhere history lines
nowhere_extended history lines state new cpu number is_history nothing reached grows extends =
    nowhere_first history is_history lines state new reached cpu number grows goes_on
  where
    goes_on : GoesOnWithout history.events (Keep cpu number) state new
    goes_on front back first rest entry last claimed is_entry later run =
        let sound = opened_run_sound history.config reached.passes.entries state reached.passes.run.run in
        let given = grows.entry in
        let kept = extended_step-unmeasured state new given.cpu given.command given.given sound extends grows.step in
        let places = HasOnePlaces-from_history history is_history in
        let same = same_entry history.events places (Keep cpu number) entry given is_entry grows.is_entry in
        run-without_extension history.events nothing front back first rest entry state new last sound (sym kept)
        (ap is_extending same.command ∙ extends) claimed later run

-- ---- lines

-- the line, where an unfinished one claims what is replied to the command that stands for its own
abbrev unread_line : Line → JournalEntry → Line
unread_line (Keep cpu number) entry = Keep cpu number
unread_line (Unfinished cpu number claimed) entry = Unfinished cpu number (unread_reply entry.command claimed)

-- the same of each line, by its commit
abbrev unread_lines : List Line → List JournalEntry → List Line
unread_lines (line ∷ lines) (entry ∷ entries) = unread_line line entry ∷ unread_lines lines entries
unread_lines _ _ = []

-- the line names the same call
NamesSame-unread : (line : Line) (entry : JournalEntry) → NamesSame line (unread_line line entry)
NamesSame-unread (Keep cpu number) entry = (refl, refl)
NamesSame-unread (Unfinished cpu number claimed) entry = (refl, refl)

-- which of the lines the other stands for
record StandsFor (lines : List Line) (place : ℕ) (other : Line) : Type 0 where
  line : Line
  entry : JournalEntry
  is_line : slice_get lines place ≡ Some line
  same : unread_line line entry ≡ other

-- each of the other lines stands for one
StandsFor-at : (lines : List Line) (entries : List JournalEntry) (place : ℕ) (other : Line)
    → slice_get (unread_lines lines entries) place ≡ Some other → StandsFor lines place other
StandsFor-at [] entries place other is = absurd (none-some other is)
StandsFor-at (line ∷ lines) [] place other is = absurd (none-some other is)
StandsFor-at (line ∷ lines) (entry ∷ entries) zero other is =
    record { line = line; entry = entry; is_line = refl; same = same_Some (unread_line line entry) other is }
StandsFor-at (line ∷ lines) (entry ∷ entries) (suc place) other is =
    let rest = StandsFor-at lines entries place other is in
    record { line = rest.line; entry = rest.entry; is_line = rest.is_line; same = rest.same }

-- both name one call
NamesSame-StandsFor : (lines : List Line) (place : ℕ) (other : Line) (at : StandsFor lines place other) → NamesSame at.line other
NamesSame-StandsFor lines place other at = subst (NamesSame at.line) at.same (NamesSame-unread at.line at.entry)

-- each line has one that stands for it
unread_lines-at : (events : List Event) (lines : List Line) (entries : List JournalEntry) → AreEntriesOf events lines entries
    → (place : ℕ) (line : Line) → slice_get lines place ≡ Some line
    → (entry : JournalEntry) × (slice_get (unread_lines lines entries) place ≡ Some (unread_line line entry))
unread_lines-at events [] entries claimed place line is = absurd (none-some line is)
unread_lines-at events (first ∷ lines) [] claimed place line is = absurd claimed
unread_lines-at events (first ∷ lines) (entry ∷ entries) claimed zero line is =
    (entry, ap (λ (l : Line). Some (unread_line l entry)) (same_Some first line is))
unread_lines-at events (first ∷ lines) (entry ∷ entries) claimed (suc place) line is = unread_lines-at events lines entries claimed.1 place line is

-- ---- orders

module _ (history unread : History) (is_history : IsHistory history) (is_unread : IsUnread history unread) where
  -- a call of the history that is finished is so there
  finished_there : (cpu number : ℕ) → IsFinished history.events cpu number → IsFinished unread.events cpu number
  finished_there cpu number finished =
      let there = return_there history unread is_unread finished.0 cpu number finished.1 finished.2 in
      (finished.0, unread_reply there.1 finished.1, there.3)

  -- and no other is
  finished_back : (cpu number : ℕ) → IsFinished unread.events cpu number → IsFinished history.events cpu number
  finished_back cpu number finished =
      let back = return_back history unread is_unread finished.0 cpu number finished.1 finished.2 in (finished.0, back.0, back.1)

  -- a call that returned there before another was made did so in the history
  returns_back : (cpu number later_cpu later_number : ℕ) → ReturnsBefore unread.events cpu number later_cpu later_number
      → ReturnsBefore history.events cpu number later_cpu later_number
  returns_back cpu number later_cpu later_number returns =
      let told = return_back history unread is_unread returns.returned cpu number returns.given returns.is_returned in
      let made = call_back history unread is_unread returns.called later_cpu later_number returns.command returns.is_called in
      record {
        returned = returns.returned;
        given = told.0;
        is_returned = told.1;
        called = returns.called;
        command = made.0;
        is_called = made.1;
        before = returns.before;
      }

  -- a line that stands for one names a call, as that does
  known_there : (line : Line) (entry : JournalEntry) → NamesCall history.events line → NamesCall unread.events (unread_line line entry)
  known_there (Keep cpu number) entry known =
      (known.0, unread_command known.1, call_there history unread is_unread known.0 cpu number known.1 known.2)
  known_there (Unfinished cpu number claimed) entry known =
      (known.0, unread_command known.1, call_there history unread is_unread known.0 cpu number known.1 known.2)

  -- is of the same kind
  kind_there : (line : Line) (entry : JournalEntry) → IsOfItsKind history.events line → IsOfItsKind unread.events (unread_line line entry)
  kind_there (Keep cpu number) entry kind = finished_there cpu number kind
  kind_there (Unfinished cpu number claimed) entry kind = λ finished. kind (finished_back cpu number finished)

  -- and claims the commit that stands for that line's
  entry_there : (line : Line) (entry : JournalEntry) → IsEntryOf history.events line entry
      → IsEntryOf unread.events (unread_line line entry) (unread_entry entry)
  entry_there (Keep cpu number) entry is_entry =
      let there = return_there history unread is_unread is_entry.given.0 cpu number entry.given is_entry.given.1 in
      let same = same_command history.events (HasOnePlaces-from_history history is_history) there.0 is_entry.called cpu number
      there.1 entry.command there.2 is_entry.is_called in
      record {
        cpu = is_entry.cpu;
        called = is_entry.called;
        is_called = call_there history unread is_unread is_entry.called cpu number entry.command is_entry.is_called;
        given = (
          is_entry.given.0,
          subst (λ (c : Command). IsReturned unread.events is_entry.given.0 cpu number (unread_reply c entry.given)) same there.3,
        );
      }
  entry_there (Unfinished cpu number claimed) entry is_entry = record {
    cpu = is_entry.cpu;
    called = is_entry.called;
    is_called = call_there history unread is_unread is_entry.called cpu number entry.command is_entry.is_called;
    given = ap (λ (g : Reply). unread_reply entry.command g) is_entry.given;
  }

  -- the same of all lines
  entries_there : (lines : List Line) (entries : List JournalEntry) → AreEntriesOf history.events lines entries
      → AreEntriesOf unread.events (unread_lines lines entries) (map unread_entry entries)
  entries_there [] [] claimed = tt
  entries_there [] (entry ∷ entries) claimed = absurd claimed
  entries_there (line ∷ lines) [] claimed = absurd claimed
  entries_there (line ∷ lines) (entry ∷ entries) claimed = (entry_there line entry claimed.0, entries_there lines entries claimed.1)

  module _ (lines : List Line) (valid : IsLinearization history lines) where
    -- what is said of each line is said of each that stands for one
    each : (P Q : Line → Type 0) → ((line : Line) (entry : JournalEntry) → P line → Q (unread_line line entry))
        → ((place : ℕ) (line : Line) → slice_get lines place ≡ Some line → P line) → (place : ℕ) (other : Line)
        → slice_get (unread_lines lines valid.entries) place ≡ Some other → Q other
    each P Q goes here place other is =
        let at = StandsFor-at lines valid.entries place other is in subst Q at.same (goes at.line at.entry (here place at.line at.is_line))

    -- no two of those name one call
    once : (i j : ℕ) (line other : Line) → i < j → slice_get (unread_lines lines valid.entries) i ≡ Some line
        → slice_get (unread_lines lines valid.entries) j ≡ Some other → ¬ NamesSame line other
    once i j line other below is there same =
        let x = StandsFor-at lines valid.entries i line is in
        let y = StandsFor-at lines valid.entries j other there in
        let names = NamesSame-StandsFor lines i line x in
        let also = NamesSame-StandsFor lines j other y in
        valid.order.names.once i j x.line y.line below x.is_line y.is_line
        (names.0 ∙ same.0 ∙ sym also.0, names.1 ∙ same.1 ∙ sym also.1)

    -- each finished call is named
    complete : (cpu number : ℕ) → IsFinished unread.events cpu number → IsNamed (unread_lines lines valid.entries) cpu number
    complete cpu number finished =
        let at = valid.order.complete cpu number (finished_back cpu number finished) in
        let there = unread_lines-at history.events lines valid.entries valid.run.claimed at.0 at.1 at.2 in
        let names = NamesSame-unread at.1 there.0 in
        (at.0, unread_line at.1 there.0, there.1, sym names.0 ∙ at.3, sym names.1 ∙ at.4)

    -- no line comes too late
    real_time : KeepsRealTime unread.events (unread_lines lines valid.entries)
    real_time i j line later below is there returns =
        let x = StandsFor-at lines valid.entries i line is in
        let y = StandsFor-at lines valid.entries j later there in
        let names = NamesSame-StandsFor lines i line x in
        let also = NamesSame-StandsFor lines j later y in
        valid.real_time i j x.line y.line below x.is_line y.is_line (rw (names.0, names.1, also.0, also.1)
        (returns_back (cpu_named later) (number_named later) (cpu_named line) (number_named line) returns))

    -- the lines that stand for a linearization's are one of the other history
    unread_order : IsLinearization unread (unread_lines lines valid.entries)
    unread_order =
        let same = ap (λ c. unmeasured (opening c)) (sym is_unread.config) in
        let sound = opening_sound history.config in
        let run = run-unmeasured valid.entries (opening history.config) (opening unread.config) valid.last sound same valid.run.run in
        record {
          order = record {
            names = record {
              known = each (NamesCall history.events) (NamesCall unread.events) known_there valid.order.names.known;
              kinds = each (IsOfItsKind history.events) (IsOfItsKind unread.events) kind_there valid.order.names.kinds;
              once = once;
            };
            complete = complete;
          };
          real_time = real_time;
          entries = map unread_entry valid.entries;
          last = run.0;
          run = record { claimed = entries_there lines valid.entries valid.run.claimed; run = run.1 };
        }

  -- where the other history has no order, the history has none
  pub nowhere-from_unread : LeadsNowhere unread [] → LeadsNowhere history []
  nowhere-from_unread nowhere = record { none = λ lines valid. nowhere.none (unread_lines lines valid.entries) (unread_order lines valid) }
