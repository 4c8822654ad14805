-- A call that can be left out of each run, and is given its reply where an order has come to, may come next at once, as one that was refused may.
use Rattle.verdict_laws.proofs.Common.{◌≡◌, ℕ, zero, suc, ◌+◌, ◌≤◌, ◌⊎◌, inl, inr, List, [], ◌∷◌, ◌++◌, length, Some, refl, sym, ◌∙◌, ap, subst, arith, append_assoc, slice_get, cases_lt, slice_get_within, Accepted, Event, Line, Keep, Unfinished, Refusal, Reply, call_of, History, IsHistory, State, opening, Step, CarriesOut, outcome, JournalEntry, IsRun, IsFinished, IsLinearization, ReturnsBefore, AreEntriesOf, IsEntryOf, NamesCall, IsOfItsKind, cpu_named, number_named, count_of, LeadsNowhere, slice_get-append, HasOnePlaces-from_history}
use Rattle.std.proofs.Common.{Result, Ok, Err}
use Rattle.rmm_spec.specs.declared.accepted.Accepted.TheVariants as accepted
use Rattle.rmm_spec.specs.Linearization.{NamesSame}
use Rattle.rmm_laws.proofs.RunLaws.{run-append}
use Rattle.spec_lemmas.proofs.Calls.{HasOnePlaces, same_entry}
use Rattle.verdict_laws.specs.Order.{Reaches, Grows, IsRefusal}
use Rattle.verdict_laws.proofs.Moves.{Each, Pairs, Each-from_places, Each-at, Pairs-from_places, Pairs-at, Each-moved, Pairs-moved, place_moved, around_place}
use Rattle.rmm_laws.proofs.EntryRuns.{same_state}

-- ---- runs

-- the commits of lines in two parts
pub record Split (events : List Event) (xs ys : List Line) (start last : State) : Type 0 where
  pub first : List JournalEntry
  pub rest : List JournalEntry
  pub middle : State
  pub claimed : AreEntriesOf events xs first
  pub later : AreEntriesOf events ys rest
  pub run : IsRun start first middle
  pub further : IsRun middle rest last

pub split_run : (events : List Event) (xs ys : List Line) (entries : List JournalEntry) (start last : State) → AreEntriesOf events (xs ++ ys) entries
    → IsRun start entries last → Split events xs ys start last
split_run events [] ys entries start last claimed run =
    record { first = []; rest = entries; middle = start; claimed = tt; later = claimed; run = refl; further = run }
split_run events (x ∷ xs) ys [] start last claimed run = absurd claimed
split_run events (x ∷ xs) ys (e ∷ entries) start last claimed run =
    let rest = split_run events xs ys entries run.0 last claimed.1 run.2 in
    record {
      first = e ∷ rest.first;
      rest = rest.rest;
      middle = rest.middle;
      claimed = (claimed.0, rest.claimed);
      later = rest.later;
      run = (run.0, run.1, rest.run);
      further = rest.further;
    }

pub claimed-append : (events : List Event) (xs ys : List Line) (es fs : List JournalEntry) → AreEntriesOf events xs es → AreEntriesOf events ys fs
    → AreEntriesOf events (xs ++ ys) (es ++ fs)
claimed-append events [] ys [] fs here there = there
claimed-append events [] ys (e ∷ es) fs here there = absurd here
claimed-append events (x ∷ xs) ys [] fs here there = absurd here
claimed-append events (x ∷ xs) ys (e ∷ es) fs here there = (here.0, claimed-append events xs ys es fs here.1 there)

-- a refusal changes nothing
refusal_keeps : (answer : Result Accepted Refusal) (old new : State) (given : Reply) → IsRefusal given → CarriesOut answer old given new → new ≡ old
refusal_keeps (Err refusal) old new given refused carried = carried.1
refusal_keeps (Ok (accepted.Done words change)) old new given refused carried = absurd (subst IsRefusal carried.0 refused)
refusal_keeps (Ok (accepted.Reaches stretch)) old new given refused carried = absurd (subst IsRefusal carried.1.1 refused)

-- a commit that changes nothing may be left out of a run
pub run-without : (front back : List JournalEntry) (entry : JournalEntry) (start last : State)
    → ((old new : State) → Step old entry.cpu entry.command entry.given new → new ≡ old)
    → IsRun start (front ++ entry ∷ back) last → IsRun start (front ++ back) last
run-without [] back entry start last keeps run = subst (λ (s : State). IsRun s back last) (keeps start run.0 run.1) run.2
run-without (e ∷ front) back entry start last keeps run = (run.0, run.1, run-without front back entry run.0 last keeps run.2)

-- ---- lines

-- what is asked of two lines, the first before the second
abbrev pub Apart : List Event → Line → Line → Type 0
Apart events line later =
    (¬ NamesSame line later) × (¬ ReturnsBefore events (cpu_named later) (number_named later) (cpu_named line) (number_named line))

-- an element behind a list
place_behind : {X : Type 0} (xs ys : List X) (i : ℕ) → slice_get (xs ++ ys) (length xs + i) ≡ slice_get ys i
place_behind [] ys i = ap (λ (n : ℕ). slice_get ys n) (omega arith)
place_behind (x ∷ xs) ys i =
    let next : suc (length xs) + i ≡ suc (length xs + i) = omega arith in
    ap (λ (n : ℕ). slice_get (x ∷ (xs ++ ys)) n) next ∙ place_behind xs ys i

pub behind : {X : Type 0} (xs ys : List X) (i : ℕ) (x : X) → slice_get ys i ≡ Some x → slice_get (xs ++ ys) (length xs + i) ≡ Some x
behind xs ys i x is = place_behind xs ys i ∙ is

-- an element of two lists is one of the first or of the second
pub in_either : {X : Type 0} (xs ys : List X) (i : ℕ) (x : X)
    → slice_get (xs ++ ys) i ≡ Some x → (slice_get xs i ≡ Some x) ⊎ ((j : ℕ) × (slice_get ys j ≡ Some x))
in_either [] ys i x is = inr (i, is)
in_either (y ∷ xs) ys zero x is = inl is
in_either (y ∷ xs) ys (suc i) x is = in_either xs ys i x is

-- each run from the one state that comes to the line's commit goes on from the other without it
abbrev pub GoesOnWithout : List Event → Line → State → State → Type 0
GoesOnWithout events line state next =
    (front back : List Line) (first rest : List JournalEntry) (entry : JournalEntry) (last : State)
    → AreEntriesOf events front first → IsEntryOf events line entry → AreEntriesOf events back rest
    → IsRun state (first ++ entry ∷ rest) last → (end : State) × IsRun next (first ++ rest) end

-- the commits of a run in which the line's comes first behind the lines
record First (events : List Event) (lines front back : List Line) (line : Line) (start : State) : Type 0 where
  entries : List JournalEntry
  last : State
  claimed : AreEntriesOf events (lines ++ (line ∷ (front ++ back))) entries
  run : IsRun start entries last

-- there is one where the line's comes further behind in a run
first_run : (events : List Event) → HasOnePlaces events
    → (lines front back : List Line) (line : Line) (start last state next : State) (early : List JournalEntry)
    → AreEntriesOf events lines early → IsRun start early state → (entry : JournalEntry) → IsEntryOf events line entry
    → Step state entry.cpu entry.command entry.given next → GoesOnWithout events line state next
    → Split events lines (front ++ line ∷ back) start last → First events lines front back line start
first_run events one lines front back line start last state next early claimed run entry is_entry step goes_on parts =
    let at : parts.middle ≡ state = same_state events one lines parts.first early start parts.middle state parts.claimed parts.run claimed run in
    let further = subst (λ (s : State). IsRun s parts.rest last) at parts.further in
    with_parts (split_run events front (line ∷ back) parts.rest state last parts.later further)
  where
    with_parts : Split events front (line ∷ back) state last → First events lines front back line start
    with_parts more = with_rest more.rest more.later more.further
      where
        with_rest : (rest : List JournalEntry)
            → AreEntriesOf events (line ∷ back) rest → IsRun more.middle rest last → First events lines front back line start
        with_rest [] later further = absurd later
        with_rest (e ∷ es) later further =
            let whole = run-append more.first (e ∷ es) state more.middle last more.run further in
            let shorter = goes_on front back more.first es e last more.claimed later.0 later.1 whole in
            record {
              entries = early ++ (entry ∷ (more.first ++ es));
              last = shorter.0;
              claimed = claimed-append events lines (line ∷ (front ++ back)) early (entry ∷ (more.first ++ es)) claimed
                  (is_entry, claimed-append events front back more.first es more.claimed later.1);
              run = run-append early (entry ∷ (more.first ++ es)) start state shorter.0 run (next, step, shorter.1);
            }

-- a line of a finished call's kind keeps it
pub kept_line : (events : List Event) (line : Line) (cpu number : ℕ) → IsOfItsKind events line → cpu_named line ≡ cpu → number_named line ≡ number
    → IsFinished events cpu number → line ≡ Keep cpu number
kept_line events (Keep c n) cpu number kind of_cpu numbered finished = ap (λ (x : ℕ). Keep x n) of_cpu ∙ ap (λ (x : ℕ). Keep cpu x) numbered
kept_line events (Unfinished c n claimed) cpu number kind of_cpu numbered finished =
    absurd (kind (subst (λ (x : ℕ). IsFinished events x n) (sym of_cpu) (subst (λ (x : ℕ). IsFinished events cpu x) (sym numbered) finished)))

module _ (history : History) (is_history : IsHistory history) (lines : List Line) (state next : State) (reached : Reaches history lines state)
    (cpu number : ℕ) (grows : Grows history lines state (Keep cpu number) next)
    (goes_on : GoesOnWithout history.events (Keep cpu number) state next) where
  -- a line behind those that pass names an open call
  names_open : (more : List Line) → IsLinearization history (lines ++ more) → (i : ℕ) (other : Line) → slice_get more i ≡ Some other
      → count_of (cpu_named other) lines ≤ number_named other
  names_open more valid i other is = elim (cases_lt (number_named other) (count_of (cpu_named other) lines)) [
    | inr above ↦ above
    | inl named ↦
        let earlier = reached.first (cpu_named other) (number_named other) named in
        let within = slice_get_within lines earlier.0 earlier.1 earlier.2 in
        absurd (valid.order.names.once earlier.0 (length lines + i) earlier.1 other (omega (arith, within))
        (slice_get-append lines more earlier.0 earlier.1 earlier.2) (behind lines more i other is) (earlier.3, earlier.4))
  ]

  -- so that it may come behind the one that is next
  passes : (front back : List Line)
      → IsLinearization history (lines ++ (front ++ Keep cpu number ∷ back)) → Each (Apart history.events (Keep cpu number)) front
  passes front back valid = Each-from_places (Apart history.events (Keep cpu number)) front (λ i other is. (
    λ same.
        let within = slice_get_within front i other is in
        let more = front ++ Keep cpu number ∷ back in
        let here = behind lines more i other (slice_get-append front (Keep cpu number ∷ back) i other is) in
        let there = behind lines more (length front + 0) (Keep cpu number) (behind front (Keep cpu number ∷ back) 0 (Keep cpu number) refl) in
        valid.order.names.once (length lines + i) (length lines + (length front + 0)) other (Keep cpu number) (omega (arith, within)) here there
        (sym same.0, sym same.1),
    λ returns.
        let is_open = names_open (front ++ Keep cpu number ∷ back) valid i other (slice_get-append front (Keep cpu number ∷ back) i other is) in
        let late = grows.soon (cpu_named other) (number_named other) returns.returned returns.given returns.is_returned is_open in
        let one = HasOnePlaces-from_history history is_history in
        let at = one.one_call grows.called returns.called cpu number grows.command returns.command grows.is_called returns.is_called in
        omega (arith, late, at, returns.before),
  ))

  -- so that the call which is next may stand first behind the lines
  moved : (front back : List Line) → IsLinearization history (lines ++ (front ++ Keep cpu number ∷ back))
      → IsLinearization history (lines ++ (Keep cpu number ∷ (front ++ back)))
  moved front back valid =
      let old = lines ++ (front ++ Keep cpu number ∷ back) in
      let new = lines ++ (Keep cpu number ∷ (front ++ back)) in
      let pairs : Pairs (Apart history.events) new =
      Pairs-moved (Apart history.events) lines front back (Keep cpu number)
      (Pairs-from_places (Apart history.events) old (λ i j x y below is there.
      (valid.order.names.once i j x y below is there, valid.real_time i j x y below is there))) (passes front back valid) in
      let known = Each-moved (NamesCall history.events) lines front back (Keep cpu number)
      (Each-from_places (NamesCall history.events) old valid.order.names.known) in
      let kinds = Each-moved (IsOfItsKind history.events) lines front back (Keep cpu number)
      (Each-from_places (IsOfItsKind history.events) old valid.order.names.kinds) in
      let first = first_run history.events (HasOnePlaces-from_history history is_history) lines front back
      (Keep cpu number) (opening history.config) valid.last state next
      reached.passes.entries reached.passes.run.claimed reached.passes.run.run grows.entry grows.is_entry grows.step goes_on
      (split_run history.events lines (front ++ Keep cpu number ∷ back) valid.entries
      (opening history.config) valid.last valid.run.claimed valid.run.run) in
      record {
        order = record {
          names = record {
            known = λ i line is. Each-at (NamesCall history.events) new i line known is;
            kinds = λ i line is. Each-at (IsOfItsKind history.events) new i line kinds is;
            once = λ i j line other below is there. (Pairs-at (Apart history.events) new i j line other pairs below is there).0;
          };
          complete = λ c n finished.
              let at = valid.order.complete c n finished in
              let there = place_moved lines front back (Keep cpu number) at.0 at.1 at.2 in
              (there.0, at.1, there.1, at.3, at.4);
        };
        real_time = λ i j line later below is there. (Pairs-at (Apart history.events) new i j line later pairs below is there).1;
        entries = first.entries;
        last = first.last;
        run = record { claimed = first.claimed; run = first.run };
      }

  -- where it leads nowhere there, all does
  pub nowhere_first : LeadsNowhere history (lines ++ Keep cpu number ∷ []) → LeadsNowhere history lines
  nowhere_first nowhere = record {
    none = λ more valid.
        let finished : IsFinished history.events cpu number = grows.next.kind in
        let named = valid.order.complete cpu number finished in
        let line : named.1 ≡ Keep cpu number =
        kept_line history.events named.1 cpu number (valid.order.names.kinds named.0 named.1 named.2) named.3 named.4 finished in
        elim (in_either lines more named.0 named.1 named.2) [
          | inl among ↦
              let below = reached.named cpu number (named.0, named.1, among, named.3, named.4) in
              let at = grows.next.numbered in
              omega (arith, below, at)
          | inr there ↦
              let parts = around_place more there.0 (Keep cpu number) (there.1 ∙ ap (λ (l : Line). Some l) line) in
              let first = moved parts.front parts.back (subst (λ (ls : List Line). IsLinearization history (lines ++ ls)) parts.whole valid) in
              nowhere.none (parts.front ++ parts.back)
              (subst (IsLinearization history) (sym (append_assoc lines (Keep cpu number ∷ []) (parts.front ++ parts.back))) first)
        ];
  }

module _ (history : History) (is_history : IsHistory history) (lines : List Line) (state : State) (reached : Reaches history lines state)
    (cpu number : ℕ) (grows : Grows history lines state (Keep cpu number) state) (refused : IsRefusal grows.entry.given) where
  -- a refused call may be left out of each run
  refused-left_out : GoesOnWithout history.events (Keep cpu number) state state
  refused-left_out front back first rest entry last claimed is_entry later run =
      let places = HasOnePlaces-from_history history is_history in
      let same = same_entry history.events places (Keep cpu number) entry grows.entry is_entry grows.is_entry in
      let is_refused : IsRefusal entry.given = subst IsRefusal (sym same.given) refused in
      let keeps : (old new : State) → Step old entry.cpu entry.command entry.given new → new ≡ old = λ old new taken.
      refusal_keeps (outcome old entry.cpu (call_of entry.command)) old new entry.given is_refused taken in
      (last, run-without first rest entry state last keeps run)

  -- so that where it leads nowhere there, all does
  pub nowhere_settled : LeadsNowhere history (lines ++ Keep cpu number ∷ []) → LeadsNowhere history lines
  nowhere_settled = nowhere_first history is_history lines state state reached cpu number grows refused-left_out
