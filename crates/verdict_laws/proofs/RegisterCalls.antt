-- A CPU has one open call, what a line's call does to a register is determined, and so is what lines come to from a value.
use Rattle.verdict_laws.proofs.Common.{◌≡◌, ℕ, zero, suc, ◌<◌, Bool, inl, inr, List, [], ◌∷◌, ◌++◌, Option, sym, ◌∙◌, ap, subst, arith, cases_order, Command, Event, Line, Measurement, Reply, call_of, History, IsHistory, IsCalled, IsReturned, cpu_named, number_named, Register, HasOnePlaces-from_history}
use Rattle.spec_lemmas.proofs.Calls.{same_command, same_given, same_reply}
use Rattle.spec_lemmas.proofs.Places.{call_is_event}
use Rattle.verdict_laws.specs.Registers.{Does, IsDone, IsEntered, IsOpenCall, IsRegisterRun, RegisterCall, done_call, entered_after, value_after}
use Rattle.verdict_laws.proofs.CallOrder.{call_before_return, returns_before_later}

-- one run behind another
pub IsRegisterRun-append : (events : List Event) (register : Register) (mine : ℕ → Bool) (xs ys : List Line) (old middle new : Option Measurement)
    → IsRegisterRun events register mine old xs middle → IsRegisterRun events register mine middle ys new
    → IsRegisterRun events register mine old (xs ++ ys) new
IsRegisterRun-append events register mine [] ys old middle new first rest =
    subst (λ (m : Option Measurement). IsRegisterRun events register mine m ys new) first rest
IsRegisterRun-append events register mine (x ∷ xs) ys old middle new first rest =
    (first.0, first.1, IsRegisterRun-append events register mine xs ys first.0 middle new first.2 rest)

module _ (history : History) (is_history : IsHistory history) where
  -- a CPU has one open call
  pub one_open_call : (place cpu number other : ℕ) → IsOpenCall history.events place cpu number → IsOpenCall history.events place cpu other
      → number ≡ other
  one_open_call place cpu number other here there = elim (cases_order number other) [
    | inl same ↦ same
    | inr apart ↦ elim apart [
      | inl below ↦ absurd (not_both number other below here there)
      | inr above ↦ absurd (not_both other number above there here)
    ]
  ]
    where
      not_both : (first later : ℕ) → first < later → IsOpenCall history.events place cpu first → ¬ IsOpenCall history.events place cpu later
      not_both first later below earlier last =
          let returns = returns_before_later history is_history cpu first later below (last.called, last.command, last.is_called) in
          let one = HasOnePlaces-from_history history is_history in
          let at = one.one_call last.called returns.called cpu later last.command returns.command last.is_called returns.is_called in
          let late = earlier.unreturned returns.returned returns.given returns.is_returned in
          let before = last.before in
          omega (arith, at, late, before, returns.before)

  -- a call is open at its return
  pub returning_is_open : (place cpu number : ℕ) (given : Reply) → IsReturned history.events place cpu number given
      → IsOpenCall history.events place cpu number
  returning_is_open place cpu number given returned =
      let one = HasOnePlaces-from_history history is_history in
      let known = one.is_known cpu number (place, given, returned) in
      record {
        called = known.0;
        command = known.1;
        is_called = known.2;
        before = call_before_return history is_history cpu number known.0 place known.1 given known.2 returned;
        unreturned = λ other told is.
            let at = one.one_return place other cpu number given told returned is in
            omega (arith, at);
      }

  -- a CPU of the history is one of eight
  pub few_cpus : (other later called : ℕ) (command : Command) → IsCalled history.events called other later command → other < 8
  few_cpus other later called command is_called =
      let within = (call_is_event history called other later command is_history is_called).0 in
      let most = is_history.config.most_cpus in
      omega (arith, within, most)

  -- by the replies of the calls before, a CPU entered one REC last
  same_entered : (cpu number : ℕ) (entered other : Option ℕ) → IsEntered history.events cpu number entered → IsEntered history.events cpu number other
      → entered ≡ other
  same_entered cpu zero entered other here there = here ∙ sym there
  same_entered cpu (suc number) entered other here there =
      let one = HasOnePlaces-from_history history is_history in
      let old : here.0 ≡ there.0 = same_entered cpu number here.0 there.0 here.1 there.1 in
      let x = here.2 in
      let y = there.2 in
      let command = same_command history.events one x.called y.called cpu number x.command y.command x.is_called y.is_called in
      let given = same_given history.events one x.returned y.returned cpu number x.given y.given x.is_returned y.is_returned in
      x.is ∙ ap (λ (o : Option ℕ). entered_after o (call_of x.command) x.given) old
      ∙ ap (λ (c : Command). entered_after there.0 (call_of c) x.given) command
      ∙ ap (λ (g : Reply). entered_after there.0 (call_of y.command) g) given ∙ sym y.is

  module _ (register : Register) (mine : ℕ → Bool) where
    -- a line's call does one thing
    pub same_done : (line : Line) (given told : Reply) (effect other : Option RegisterCall) → IsDone history.events register mine line given effect
        → IsDone history.events register mine line told other → effect ≡ other
    same_done line given told effect other here there =
        let one = HasOnePlaces-from_history history is_history in
        let cpu = cpu_named line in
        let number = number_named line in
        let entered = same_entered cpu number here.entered there.entered here.is_entered there.is_entered in
        let command = same_command history.events one here.called there.called cpu number here.command there.command here.is_called there.is_called in
        let reply = same_reply history.events one line given told here.is_given there.is_given in
        here.is ∙ ap (λ (e : Option ℕ). done_call register mine e (call_of here.command) given) entered
        ∙ ap (λ (c : Command). done_call register mine there.entered (call_of c) given) command
        ∙ ap (λ (g : Reply). done_call register mine there.entered (call_of there.command) g) reply ∙ sym there.is

    -- so that it comes to one value
    pub same_after : (line : Line) (old new other : Option Measurement) → Does history.events register mine line old new
        → Does history.events register mine line old other → new ≡ other
    same_after line old new other here there =
        let done = same_done line here.given there.given here.done there.done here.is_done there.is_done in
        here.after ∙ ap (λ (d : Option RegisterCall). value_after d old) done ∙ sym there.after

    -- what a run of more lines is behind the first of them
    pub IsRegisterRun-behind : (xs ys : List Line) (old middle new : Option Measurement)
        → IsRegisterRun history.events register mine old (xs ++ ys) new → IsRegisterRun history.events register mine old xs middle
        → IsRegisterRun history.events register mine middle ys new
    IsRegisterRun-behind [] ys old middle new run first =
        subst (λ (m : Option Measurement). IsRegisterRun history.events register mine m ys new) (sym first) run
    IsRegisterRun-behind (x ∷ xs) ys old middle new run first =
        let same = same_after x old first.0 run.0 first.1 run.1 in
        IsRegisterRun-behind xs ys run.0 middle new run.2
        (subst (λ (m : Option Measurement). IsRegisterRun history.events register mine m xs middle) same first.2)
