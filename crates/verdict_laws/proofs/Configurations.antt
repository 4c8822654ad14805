-- Two orders of the same calls are continued alike where runs go on alike from their states, as they do where both lead to one.
use Rattle.verdict_laws.proofs.Common.{◌≡◌, ℕ, ◌+◌, inl, inr, List, ◌++◌, length, Some, subst, arith, slice_get, slice_get_within, Line, History, IsHistory, State, opening, JournalEntry, IsRun, IsFinished, IsNamed, IsLinearization, AreEntriesOf, NamesCall, IsOfItsKind, cpu_named, number_named, count_of, LeadsNowhere, slice_get-append, HasOnePlaces-from_history}
use Rattle.rmm_laws.proofs.RunLaws.{run-append}
use Rattle.verdict_laws.specs.Order.{Reaches}
use Rattle.verdict_laws.proofs.Moves.{Each, Pairs, Each-from_places, Pairs-from_places, Pairs-at, Pairs-append, Pairs-behind}
use Rattle.verdict_laws.proofs.Settled.{Apart, behind, in_either, claimed-append, split_run}
use Rattle.rmm_laws.proofs.EntryRuns.{same_state}

-- the runs of what lines claim go on from the one state wherever they do from the other
abbrev pub GoOnAlike : History → State → State → Type 0
GoOnAlike history state second =
    (lines : List Line) (entries : List JournalEntry) (last : State) → AreEntriesOf history.events lines entries → IsRun second entries last
    → (end : State) × IsRun state entries end

module _ (history : History) (is_history : IsHistory history) (one other : List Line) (state second : State) (reached : Reaches history one state)
    (also : Reaches history other second) (counts : (cpu : ℕ) → count_of cpu one ≡ count_of cpu other)
    (goes_on : GoOnAlike history state second) where
  -- the one order names what the other does
  named_alike : (cpu number : ℕ) → IsNamed one cpu number → IsNamed other cpu number
  named_alike cpu number named =
      let below = reached.named cpu number named in
      let same = counts cpu in
      also.first cpu number (omega (arith, below, same))

  back : (cpu number : ℕ) → IsNamed other cpu number → IsNamed one cpu number
  back cpu number named =
      let below = also.named cpu number named in
      let same = counts cpu in
      reached.first cpu number (omega (arith, below, same))

  -- a line behind the other order names none of its calls
  further : (more : List Line) → IsLinearization history (other ++ more) → (j : ℕ) (line : Line) → slice_get more j ≡ Some line
      → ¬ IsNamed other (cpu_named line) (number_named line)
  further more valid j line is named =
      let within = slice_get_within other named.0 named.1 named.2 in
      valid.order.names.once named.0 (length other + j) named.1 line (omega (arith, within))
      (slice_get-append other more named.0 named.1 named.2) (behind other more j line is) (named.3, named.4)

  apart : (more : List Line) → IsLinearization history (other ++ more) → Pairs (Apart history.events) (one ++ more)
  apart more valid =
      Pairs-append (Apart history.events) one more
      (Pairs-from_places (Apart history.events) one (λ i j x y below is there.
      (reached.passes.names.once i j x y below is there, reached.passes.real_time i j x y below is there)))
      (Pairs-behind (Apart history.events) other more (Pairs-from_places (Apart history.events) (other ++ more) (λ i j x y below is there.
      (valid.order.names.once i j x y below is there, valid.real_time i j x y below is there))))
      (Each-from_places (λ x. Each (Apart history.events x) more) one (λ i x is.
      Each-from_places (Apart history.events x) more (λ j y there. (
        λ same. further more valid j y there (named_alike (cpu_named y) (number_named y) (i, x, is, same.0, same.1)),
        λ returns.
            reached.in_time y (λ named. further more valid j y there (named_alike (cpu_named y) (number_named y) named)) (i, x, is, returns),
      ))))

  each : (P : Line → Type 0) → ((i : ℕ) (line : Line) → slice_get one i ≡ Some line → P line) → (more : List Line)
      → ((i : ℕ) (line : Line) → slice_get (other ++ more) i ≡ Some line → P line)
      → (i : ℕ) (line : Line) → slice_get (one ++ more) i ≡ Some line → P line
  each P here more there i line is = elim (in_either one more i line is) [
    | inl among ↦ here i line among
    | inr later ↦ there (length other + later.0) line (behind other more later.0 line later.1)
  ]

  complete : (more : List Line) → IsLinearization history (other ++ more) → (cpu number : ℕ) → IsFinished history.events cpu number
      → IsNamed (one ++ more) cpu number
  complete more valid cpu number finished =
      let at = valid.order.complete cpu number finished in
      elim (in_either other more at.0 at.1 at.2) [
        | inl among ↦
            let named = back cpu number (at.0, at.1, among, at.3, at.4) in
            (named.0, named.1, slice_get-append one more named.0 named.1 named.2, named.3, named.4)
        | inr later ↦ (length one + later.0, at.1, behind one more later.0 at.1 later.1, at.3, at.4)
      ]

  -- what continues the other continues the one
  alike : (more : List Line) → IsLinearization history (other ++ more) → IsLinearization history (one ++ more)
  alike more valid =
      let pairs = apart more valid in
      let parts = split_run history.events other more valid.entries (opening history.config) valid.last valid.run.claimed valid.run.run in
      let places = HasOnePlaces-from_history history is_history in
      let at : parts.middle ≡ second =
      same_state history.events places other parts.first also.passes.entries (opening history.config) parts.middle second parts.claimed parts.run
      also.passes.run.claimed also.passes.run.run in
      let on = goes_on more parts.rest valid.last parts.later (subst (λ (s : State). IsRun s parts.rest valid.last) at parts.further) in
      record {
        order = record {
          names = record {
            known = each (NamesCall history.events) reached.passes.names.known more valid.order.names.known;
            kinds = each (IsOfItsKind history.events) reached.passes.names.kinds more valid.order.names.kinds;
            once = λ i j line later below is there. (Pairs-at (Apart history.events) (one ++ more) i j line later pairs below is there).0;
          };
          complete = complete more valid;
        };
        real_time = λ i j line later below is there. (Pairs-at (Apart history.events) (one ++ more) i j line later pairs below is there).1;
        entries = reached.passes.entries ++ parts.rest;
        last = on.0;
        run = record {
          claimed = claimed-append history.events one more reached.passes.entries parts.rest reached.passes.run.claimed parts.later;
          run = run-append reached.passes.entries parts.rest (opening history.config) state on.0 reached.passes.run.run on.1;
        };
      }

  -- so that the other leads nowhere where the one does
  pub nowhere_beside : LeadsNowhere history one → LeadsNowhere history other
  nowhere_beside nowhere = record { none = λ more valid. nowhere.none more (alike more valid) }

-- two orders that lead to one state
pub nowhere_alike : (history : History) → IsHistory history → (one other : List Line) (state : State)
    → Reaches history one state → Reaches history other state
    → ((cpu : ℕ) → count_of cpu one ≡ count_of cpu other) → LeadsNowhere history one → LeadsNowhere history other
nowhere_alike history is_history one other state reached also counts =
    nowhere_beside history is_history one other state state reached also counts (λ lines entries last claimed run. (last, run))
