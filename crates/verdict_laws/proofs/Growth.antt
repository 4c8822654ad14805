-- An order grows by a call that can come next, and is whole once each finished call stands in it.
use Rattle.verdict_laws.proofs.Common.{◌≡◌, ℕ, ◌<◌, ◌≤◌, eqb, List, [], ◌∷◌, ◌++◌, inl, inr, sym, subst, arith, cases_Bool, cases_lt, none-some, Command, Line, History, IsHistory, State, opening, Step, IsFinished, IsNamed, IsLinearization, ReturnsBefore, cpu_named, number_named, count_of, HasOnePlaces-from_history}
use Rattle.std.proofs.lemmas.Bool.{eqb-true}
use Rattle.rmm_spec.specs.Linearization.{IsTooLate}
use Rattle.lemmas.proofs.Elements.{slice_get_push_cases}
use Rattle.spec_lemmas.proofs.Calls.{same_command, IsNamed-push_cases}
use Rattle.checker.proofs.Progress.{Follows, Passes-nil, Passes-push}
use Rattle.verdict_laws.specs.Order.{Reaches, Grows}
use Rattle.verdict_laws.proofs.Counts.{count_of-same, count_of-other, count_of-le, count_of-nil, IsNamed-push, IsNamed-last}

-- no line
pub Reaches-nil : (history : History) → Reaches history [] (opening history.config)
Reaches-nil history = record {
  passes = Passes-nil history;
  named = λ cpu number named. absurd (none-some named.1 named.2);
  first = λ cpu number below. absurd (let zero_of = count_of-nil cpu in omega (arith, zero_of, below));
  in_time = λ line unnamed late. none-some late.1 late.2;
}

-- a call whose number is the count isn't named
unnamed_next : (history : History) (lines : List Line) (state : State) → Reaches history lines state → (cpu number : ℕ) → count_of cpu lines ≤ number
    → ¬ IsNamed lines cpu number
unnamed_next history lines state reached cpu number above is_named = let below = reached.named cpu number is_named in omega (arith, below, above)

-- a call that isn't named has a number above the count
pub open_number : (history : History) (lines : List Line) (state : State)
    → Reaches history lines state → (cpu number : ℕ) → ¬ IsNamed lines cpu number
    → count_of cpu lines ≤ number
open_number history lines state reached cpu number unnamed = elim (cases_lt number (count_of cpu lines)) [
  | inl below ↦ absurd (unnamed (reached.first cpu number below))
  | inr above ↦ above
]

module _ (history : History) (is_history : IsHistory history) (lines : List Line) (old : State)
    (reached : Reaches history lines old) (line : Line) (new : State) (grows : Grows history lines old line new) where
  -- the line follows those before it
  follows : Follows history lines old line grows.called new
  follows =
      let same = same_command history.events
      (HasOnePlaces-from_history history is_history) grows.called grows.is_entry.called (cpu_named line) (number_named line)
      grows.command grows.entry.command grows.is_called grows.is_entry.is_called in
      record {
        command = grows.command;
        is_called = grows.is_called;
        unnamed = unnamed_next history lines old reached (cpu_named line) (number_named line) (omega (arith, grows.next.numbered));
        kind = grows.next.kind;
        in_time = reached.in_time line
            (unnamed_next history lines old reached (cpu_named line) (number_named line) (omega (arith, grows.next.numbered)));
        given = grows.entry.given;
        is_given = grows.is_entry.given;
        step = subst (λ (cpu : ℕ). Step old cpu grows.command grows.entry.given new) grows.is_entry.cpu
            (subst (λ (command : Command). Step old grows.entry.cpu command grows.entry.given new) (sym same) grows.step);
      }

  named_push : (cpu number : ℕ) → IsNamed (lines ++ line ∷ []) cpu number → number < count_of cpu (lines ++ line ∷ [])
  named_push cpu number named = elim (IsNamed-push_cases lines line cpu number named) [
    | inl before ↦
        let below = reached.named cpu number before in
        let more = count_of-le cpu lines line in
        omega (arith, below, more)
    | inr last ↦
        let more = count_of-same cpu lines line last.0 in
        let numbered : number_named line ≡ count_of cpu lines = subst (λ (c : ℕ). number_named line ≡ count_of c lines) last.0 grows.next.numbered in
        omega (arith, more, numbered, last.1)
  ]

  first_push : (cpu number : ℕ) → number < count_of cpu (lines ++ line ∷ []) → IsNamed (lines ++ line ∷ []) cpu number
  first_push cpu number below = elim (cases_lt number (count_of cpu lines)) [
    | inl before ↦ IsNamed-push lines line cpu number (reached.first cpu number before)
    | inr at ↦ elim (cases_Bool (eqb (cpu_named line) cpu)) [
      | inl is_same ↦
          let of_cpu = eqb-true (cpu_named line) cpu is_same in
          let more = count_of-same cpu lines line of_cpu in
          let numbered : number_named line ≡ count_of cpu lines =
          subst (λ (c : ℕ). number_named line ≡ count_of c lines) of_cpu grows.next.numbered in
          IsNamed-last lines line cpu number of_cpu (omega (arith, more, numbered, at, below))
      | inr is_other ↦
          let same = count_of-other cpu lines line is_other in
          absurd (omega (arith, same, at, below))
    ]
  ]

  in_time_push : (other : Line) → ¬ IsNamed (lines ++ line ∷ []) (cpu_named other) (number_named other)
      → ¬ IsTooLate history.events (lines ++ line ∷ []) other
  in_time_push other unnamed late = elim (slice_get_push_cases lines line late.0 late.1 late.2) [
    | inl before ↦
        reached.in_time other
        (λ named. unnamed (IsNamed-push lines line (cpu_named other) (number_named other) named)) (late.0, late.1, before, late.3)
    | inr last ↦
        let returns : ReturnsBefore history.events (cpu_named other) (number_named other) (cpu_named line) (number_named line) =
        subst (λ (l : Line). ReturnsBefore history.events (cpu_named other) (number_named other) (cpu_named l) (number_named l)) last.1 late.3 in
        let is_open = open_number history lines old reached (cpu_named other) (number_named other)
        (λ named. unnamed (IsNamed-push lines line (cpu_named other) (number_named other) named)) in
        let behind = grows.soon (cpu_named other) (number_named other) returns.returned returns.given returns.is_returned is_open in
        let one = HasOnePlaces-from_history history is_history in
        let same = one.one_call grows.called returns.called (cpu_named line)
        (number_named line) grows.command returns.command grows.is_called returns.is_called in
        omega (arith, behind, same, returns.before)
  ]

  pub Reaches-push : Reaches history (lines ++ line ∷ []) new
  Reaches-push = record {
    passes = Passes-push history lines old line grows.called new reached.passes follows;
    named = named_push;
    first = first_push;
    in_time = in_time_push;
  }

-- each finished call stands in the order
pub IsLinearization-from_Reaches : (history : History) (lines : List Line) (last : State) → Reaches history lines last
    → ((cpu number : ℕ) → IsFinished history.events cpu number → number < count_of cpu lines) → IsLinearization history lines
IsLinearization-from_Reaches history lines last reached all = record {
  order = record { names = reached.passes.names; complete = λ cpu number finished. reached.first cpu number (all cpu number finished) };
  real_time = reached.passes.real_time;
  entries = reached.passes.entries;
  last = last;
  run = reached.passes.run;
}
