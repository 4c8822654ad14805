-- An order that lacks a call at its return is continued by open calls and then the call.
use Rattle.verdict_laws.proofs.Common.{◌≡◌, ℕ, ◌+◌, ◌<◌, ◌≤◌, eqb, List, [], ◌∷◌, ◌++◌, inl, inr, length, Option, Some, sym, ◌∙◌, ap, subst, arith, append_assoc, slice_get, cases_Bool, cases_lt, cases_order, same_Some, slice_get_within, slice_get-append, Command, Event, Called, Returned, Line, Keep, Reply, History, IsHistory, State, opening, IsCalled, IsReturned, IsFinished, IsLinearization, cpu_named, number_named, count_of, LeadsNowhere, HasOnePlaces-from_history}
use Rattle.std.proofs.lemmas.Bool.{eqb-true}
use Rattle.std.specs.Option.{option_map}
use Rattle.lemmas.proofs.Elements.{slice_get-push}
use Rattle.rmm_spec.specs.Linearization.{NamesSame}
use Rattle.verdict_laws.proofs.CallOrder.{call_before_return, returns_before_later}
use Rattle.verdict_laws.proofs.Counts.{count_of-nil}
use Rattle.verdict_laws.proofs.Moves.{Each, Pairs, Each-append, Each-from_places, Pairs-from_places, around_place}
use Rattle.verdict_laws.proofs.Settled.{behind, in_either, split_run, kept_line}
use Rattle.verdict_laws.specs.Forward.{IsKept, IsOpen, AreOpen, Gives}
use Rattle.verdict_laws.proofs.Counted.{count_of-cons_other}
use Rattle.verdict_laws.proofs.Looks.{Gives-split, nowhere_further}
use Rattle.rmm_laws.proofs.EntryRuns.{same_state}

-- an event is a call or a return
is_call : Event → ℕ
is_call (Called cpu number command) = 1
is_call (Returned cpu number given) = 0

-- a call and a return are at two places
pub apart_places : (events : List Event) (place cpu number other later : ℕ) (command : Command) (given : Reply)
    → IsCalled events place cpu number command → ¬ IsReturned events place other later given
unfolding is_call
apart_places events place cpu number other later command given is_called is_returned =
    let both : Some (is_call (Called cpu number command)) ≡ Some (is_call (Returned other later given)) =
    ap (λ (o : Option Event). option_map is_call o) (sym is_called ∙ is_returned) in
    let same : 1 ≡ 0 = same_Some 1 0 both in
    omega (arith, same)

-- open calls that are no two the same are of CPUs of their own
own_cpu : (events : List Event) (place : ℕ) (lines : List Line) (x : Line) (xs : List Line) → IsOpen events place lines x
    → Each (IsOpen events place lines) xs → Each (λ y. ¬ NamesSame x y) xs → count_of (cpu_named x) xs ≡ 0
own_cpu events place lines x [] is_open each apart = count_of-nil (cpu_named x)
own_cpu events place lines x (y ∷ xs) is_open each apart = elim (cases_Bool (eqb (cpu_named y) (cpu_named x))) [
  | inl is_same ↦
      let same = eqb-true (cpu_named y) (cpu_named x) is_same in
      let numbers : number_named x ≡ number_named y =
      is_open.next.numbered ∙ sym (ap (λ (c : ℕ). count_of c lines) same) ∙ sym each.0.next.numbered in
      absurd (apart.0 (sym same, numbers))
  | inr other ↦ count_of-cons_other (cpu_named x) y xs other ∙ own_cpu events place lines x xs is_open each.1 apart.1
]

AreOpen-from_each : (events : List Event) (place : ℕ) (lines xs : List Line) → Each (IsOpen events place lines) xs → Pairs (λ x y. ¬ NamesSame x y) xs
    → AreOpen events place lines xs
AreOpen-from_each events place lines [] each apart = tt
AreOpen-from_each events place lines (x ∷ xs) each apart = (
  each.0,
  own_cpu events place lines x xs each.0 each.1 apart.0,
  AreOpen-from_each events place lines xs each.1 apart.1,
)

module _ (history : History) (is_history : IsHistory history) (place : ℕ)
    (lines : List Line) (state : State) (kept : IsKept history place lines state) where
  -- a call that isn't among the lines and was made before the place is the first of its CPU that isn't
  pub next_number : (line : Line) (called : ℕ) (command : Command) → IsCalled history.events called (cpu_named line) (number_named line) command
      → called < place → count_of (cpu_named line) lines ≤ number_named line → number_named line ≡ count_of (cpu_named line) lines
  next_number line called command is_called before above = elim (cases_order (number_named line) (count_of (cpu_named line) lines)) [
    | inl at ↦ at
    | inr apart ↦ elim apart [
      | inl below ↦ absurd (omega (arith, above, below))
      | inr past ↦
          let cpu = cpu_named line in
          let number = number_named line in
          let first = count_of cpu lines in
          let returns = returns_before_later history is_history cpu first number past (called, command, is_called) in
          let late = kept.returned cpu first returns.returned returns.given returns.is_returned (omega arith) in
          let one = HasOnePlaces-from_history history is_history in
          let at = one.one_call called returns.called cpu number command returns.command is_called returns.is_called in
          let early = returns.before in
          absurd (omega (arith, late, at, early, before))
    ]
  ]

  module _ (cpu number : ℕ) (given : Reply) (returned : IsReturned history.events place cpu number given) (lacks : count_of cpu lines ≤ number) where
    -- the call that returns is open
    pub returning_open : IsOpen history.events place lines (Keep cpu number)
    returning_open =
        let one = HasOnePlaces-from_history history is_history in
        let known = one.is_known cpu number (place, given, returned) in
        let before = call_before_return history is_history cpu number known.0 place known.1 given known.2 returned in
        record {
          next = record {
            known = known;
            kind = (place, given, returned);
            numbered = next_number (Keep cpu number) known.0 known.1 known.2 before lacks;
          };
          called = known.0;
          command = known.1;
          is_called = known.2;
          before = before;
        }

    module _ (front back : List Line) (valid : IsLinearization history (lines ++ ((front ++ Keep cpu number ∷ []) ++ back))) where
      -- the calls up to the one that returns stand behind the lines
      stands : (i : ℕ) (line : Line) → slice_get (front ++ Keep cpu number ∷ []) i ≡ Some line
          → slice_get (lines ++ ((front ++ Keep cpu number ∷ []) ++ back)) (length lines + i) ≡ Some line
      stands i line is =
          behind lines ((front ++ Keep cpu number ∷ []) ++ back) i line (slice_get-append (front ++ Keep cpu number ∷ []) back i line is)

      -- none of them is among the lines
      beyond : (i : ℕ) (line : Line) → slice_get (front ++ Keep cpu number ∷ []) i ≡ Some line → count_of (cpu_named line) lines ≤ number_named line
      beyond i line is = elim (cases_lt (number_named line) (count_of (cpu_named line) lines)) [
        | inr above ↦ above
        | inl below ↦
            let named = kept.reached.first (cpu_named line) (number_named line) below in
            let within = slice_get_within lines named.0 named.1 named.2 in
            absurd (valid.order.names.once named.0 (length lines + i) named.1 line (omega (arith, within))
            (slice_get-append lines ((front ++ Keep cpu number ∷ []) ++ back) named.0 named.1 named.2) (stands i line is) (named.3, named.4))
      ]

      -- those before the one that returns are open at its return
      put_open : (i : ℕ) (line : Line) → slice_get front i ≡ Some line → IsOpen history.events place lines line
      put_open i line is =
          let here = slice_get-append front (Keep cpu number ∷ []) i line is in
          let known = valid.order.names.known (length lines + i) line (stands i line here) in
          let before = early known.0 known.1 known.2 in
          record {
            next = record {
              known = known;
              kind = valid.order.names.kinds (length lines + i) line (stands i line here);
              numbered = next_number line known.0 known.1 known.2 before (beyond i line here);
            };
            called = known.0;
            command = known.1;
            is_called = known.2;
            before = before;
          }
        where
          early : (called : ℕ) (command : Command) → IsCalled history.events called (cpu_named line) (number_named line) command → called < place
          early called command is_called = elim (cases_order called place) [
            | inl at ↦
                absurd (apart_places history.events called (cpu_named line) (number_named line) cpu number command given is_called
                (subst (λ (p : ℕ). IsReturned history.events p cpu number given) (sym at) returned))
            | inr apart ↦ elim apart [
              | inl before ↦ before
              | inr late ↦
                  let within = slice_get_within front i line is in
                  absurd (valid.real_time (length lines + i) (length lines + length front) line (Keep cpu number) (omega (arith, within))
                  (stands i line (slice_get-append front (Keep cpu number ∷ []) i line is))
                  (stands (length front) (Keep cpu number) (slice_get-push front (Keep cpu number)))
                  (record {
                    returned = place;
                    given = given;
                    is_returned = returned;
                    called = called;
                    command = command;
                    is_called = is_called;
                    before = late;
                  }))
            ]
          ]

      pub put_are_open : AreOpen history.events place lines (front ++ Keep cpu number ∷ [])
      put_are_open =
          AreOpen-from_each history.events place lines (front ++ Keep cpu number ∷ [])
          (Each-append (IsOpen history.events place lines) front (Keep cpu number ∷ [])
          (Each-from_places (IsOpen history.events place lines) front put_open) (returning_open, tt))
          (Pairs-from_places (λ x y. ¬ NamesSame x y) (front ++ Keep cpu number ∷ []) (λ i j x y below is there.
          valid.order.names.once (length lines + i) (length lines + j) x y (omega (arith, below)) (stands i x is) (stands j y there)))

      pub put_given : (new : State) × Gives history.events state (front ++ Keep cpu number ∷ []) new
      put_given =
          let start = opening history.config in
          let places = HasOnePlaces-from_history history is_history in
          let passes = kept.reached.passes in
          let all = (front ++ Keep cpu number ∷ []) ++ back in
          let parts = split_run history.events lines all valid.entries start valid.last valid.run.claimed valid.run.run in
          let at : parts.middle ≡ state =
          same_state history.events places lines parts.first passes.entries start parts.middle state parts.claimed parts.run
          passes.run.claimed passes.run.run in
          let more = split_run history.events (front ++ Keep cpu number ∷ []) back parts.rest parts.middle valid.last parts.later parts.further in (
            more.middle,
            subst (λ (s : State). Gives history.events s (front ++ Keep cpu number ∷ []) more.middle) at
                (record { entries = more.first; claimed = more.claimed; run = more.run }),
          )

    -- the order leads nowhere where open calls and then the returning one do
    pub nowhere_unless_put : ((before : List Line) (new : State) → AreOpen history.events place lines (before ++ Keep cpu number ∷ [])
        → Gives history.events state (before ++ Keep cpu number ∷ []) new → LeadsNowhere history (lines ++ (before ++ Keep cpu number ∷ [])))
        → LeadsNowhere history lines
    nowhere_unless_put each = record {
      none = λ more valid.
          let finished : IsFinished history.events cpu number = (place, given, returned) in
          let named = valid.order.complete cpu number finished in
          let line : named.1 ≡ Keep cpu number =
          kept_line history.events named.1 cpu number (valid.order.names.kinds named.0 named.1 named.2) named.3 named.4 finished in
          elim (in_either lines more named.0 named.1 named.2) [
            | inl among ↦
                let below = kept.reached.named cpu number (named.0, named.1, among, named.3, named.4) in
                omega (arith, below, lacks)
            | inr there ↦
                let parts = around_place more there.0 (Keep cpu number) (there.1 ∙ ap (λ (l : Line). Some l) line) in
                let front = parts.front in
                let back = parts.back in
                let whole : more ≡ (front ++ Keep cpu number ∷ []) ++ back = parts.whole ∙ sym (append_assoc front (Keep cpu number ∷ []) back) in
                let split = subst (λ (ls : List Line). IsLinearization history (lines ++ ls)) whole valid in
                let is_given = put_given front back split in
                (each front is_given.0 (put_are_open front back split) is_given.1).none back
                (subst (IsLinearization history) (sym (append_assoc lines (front ++ Keep cpu number ∷ []) back)) split)
          ];
    }

    -- so it does where each open call that is given does, the one that returns among them
    pub nowhere_after_each : ((line : Line) (new : State) → IsOpen history.events place lines line → Gives history.events state (line ∷ []) new
        → LeadsNowhere history (lines ++ line ∷ [])) → LeadsNowhere history lines
    nowhere_after_each each = nowhere_unless_put first
      where
        first : (before : List Line) (new : State) → AreOpen history.events place lines (before ++ Keep cpu number ∷ [])
            → Gives history.events state (before ++ Keep cpu number ∷ []) new → LeadsNowhere history (lines ++ (before ++ Keep cpu number ∷ []))
        first [] new are_open is_given = each (Keep cpu number) new are_open.0 is_given
        first (x ∷ before) new are_open is_given =
            let rest = before ++ Keep cpu number ∷ [] in
            let parts = Gives-split history.events state (x ∷ []) rest new is_given in
            subst (λ (ls : List Line). LeadsNowhere history ls) (append_assoc lines (x ∷ []) rest)
            (nowhere_further history (lines ++ x ∷ []) rest (each x parts.middle are_open.0 parts.first))
