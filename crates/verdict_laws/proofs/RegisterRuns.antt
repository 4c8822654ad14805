-- The first lines of a linearization are a run of each register.
use Rattle.verdict_laws.proofs.Common.{◌≡◌, ℕ, suc, ◌+◌, eqb, Bool, List, [], ◌∷◌, ◌++◌, Option, None, inl, inr, refl, sym, ◌∙◌, ap, subst, arith, append_assoc, cases_Bool, Event, Line, Keep, Unfinished, Measurement, Reply, call_of, Config, History, IsHistory, State, opening, Step, JournalEntry, IsRun, IsReturned, IsFinished, IsOfItsKind, IsEntryOf, AreEntriesOf, IsLinearization, cpu_named, number_named, count_of, Register}
use Rattle.std.proofs.lemmas.Bool.{eqb-true}
use Rattle.rmm_spec.specs.Linearization.{IsKnown, IsReplyOf}
use Rattle.rmm_laws.proofs.Cases.{nothing_there}
use Rattle.rmm_laws.proofs.Runs.{opened_run_sound}
use Rattle.verdict_laws.specs.Order.{IsNext, Reaches}
use Rattle.verdict_laws.specs.Forward.{MadeBefore}
use Rattle.verdict_laws.specs.Registers.{AreMine, Does, IsEntered, IsRegister, IsRegisterRun, done_call, entered_after, value_after}
use Rattle.verdict_laws.proofs.CallOrder.{finished_before_call}
use Rattle.verdict_laws.proofs.Counts.{count_of-nil, count_of-other, count_of-same}
use Rattle.verdict_laws.proofs.Counted.{count_of-append, count_of-cons_same, other_way}
use Rattle.verdict_laws.proofs.Growth.{Reaches-nil}
use Rattle.verdict_laws.proofs.Reached.{IsNext-linear, Reaches-linear}
use Rattle.verdict_laws.proofs.RegisterStates.{Knows}
use Rattle.verdict_laws.proofs.RegisterSteps.{IsMineAsked, entered_then, step-knows}
use Rattle.verdict_laws.proofs.Settled.{split_run}

-- ---- what each CPU entered last

-- of each CPU whose next call behind the lines was made, that is the REC that it entered last
abbrev AreEntered : List Event → List Line → (ℕ → Option ℕ) → Type 0
AreEntered events lines entered = (cpu : ℕ) → IsKnown events cpu (count_of cpu lines) → IsEntered events cpu (count_of cpu lines) (entered cpu)

-- before any line no CPU entered one
AreEntered-nil : (events : List Event) → AreEntered events [] (λ cpu. None)
AreEntered-nil events cpu known = subst (λ (n : ℕ). IsEntered events cpu n None) (sym (count_of-nil cpu)) refl

-- a line of a finished call claims the reply that it returned with
pub claimed_return : (events : List Event) (line : Line) (given : Reply) → IsOfItsKind events line
    → IsFinished events (cpu_named line) (number_named line) → IsReplyOf events line given
    → (returned : ℕ) × IsReturned events returned (cpu_named line) (number_named line) given
claimed_return events (Keep cpu number) given kind finished claimed = claimed
claimed_return events (Unfinished cpu number told) given kind finished claimed = absurd (kind finished)

module _ (history : History) (is_history : IsHistory history) (lines : List Line) (entered : ℕ → Option ℕ)
    (are_entered : AreEntered history.events lines entered) (line : Line) (next : IsNext history.events lines line)
    (entry : JournalEntry) (is_entry : IsEntryOf history.events line entry) where
  -- before the next line its CPU entered that REC last
  IsEntered-next : IsEntered history.events (cpu_named line) (number_named line) (entered (cpu_named line))
  IsEntered-next =
      let cpu = cpu_named line in
      subst (λ (n : ℕ). IsEntered history.events cpu n (entered cpu)) (sym next.numbered)
      (are_entered cpu (subst (λ (n : ℕ). IsKnown history.events cpu n) next.numbered next.known))

  -- behind it its CPU entered what the line's call tells, where it made another call
  IsEntered-own : IsKnown history.events (cpu_named line) (suc (number_named line))
      → IsEntered history.events (cpu_named line) (suc (number_named line))
      (entered_after (entered (cpu_named line)) (call_of entry.command) entry.given)
  IsEntered-own known =
      let cpu = cpu_named line in
      let number = number_named line in
      let finished = finished_before_call history is_history cpu number (suc number) (omega arith) known in
      let told = claimed_return history.events line entry.given next.kind finished is_entry.given in (
        entered cpu,
        IsEntered-next,
        record {
          called = is_entry.called;
          command = entry.command;
          is_called = is_entry.is_called;
          returned = told.0;
          given = entry.given;
          is_returned = told.1;
          is = refl;
        },
      )

  -- and no other CPU entered another
  AreEntered-push : AreEntered history.events (lines ++ line ∷ []) (entered_then entered (cpu_named line) entry.command entry.given)
  AreEntered-push cpu known = elim (cases_Bool (eqb cpu (cpu_named line))) [
    | inl is_same ↦
        let of_cpu = eqb-true cpu (cpu_named line) is_same in
        let more = count_of-same cpu lines line (sym of_cpu) in
        let at : number_named line ≡ count_of cpu lines = next.numbered ∙ ap (λ (c : ℕ). count_of c lines) (sym of_cpu) in
        let counted : count_of cpu (lines ++ line ∷ []) ≡ suc (number_named line) = omega (arith, more, at) in
        let number = suc (number_named line) in
        let there = subst (λ (c : ℕ). IsKnown history.events c number) of_cpu (subst (λ (n : ℕ). IsKnown history.events cpu n) counted known) in
        rw (is_same, counted)
        (subst (λ (c : ℕ). IsEntered history.events c number (entered_after (entered (cpu_named line)) (call_of entry.command) entry.given))
        (sym of_cpu) (IsEntered-own there))
    | inr is_other ↦
        let same = count_of-other cpu lines line (other_way cpu (cpu_named line) is_other) in
        rw (is_other, same) (are_entered cpu (subst (λ (n : ℕ). IsKnown history.events cpu n) same known))
  ]

-- ---- runs

-- the opening state knows that no CPU entered a REC, and that there is no register
Knows-opening : (config : Config) (register : Register) (mine : ℕ → Bool) → Knows (opening config) register mine (λ cpu. None) None
unfolding opening
Knows-opening config register mine = record {
  running = λ g cpu c at runs. nothing_there refl at;
  owned = λ g c at. nothing_there refl at;
  holds = λ realm at. nothing_there refl at;
}

module _ (history : History) (register : Register) (mine : ℕ → Bool) (place : ℕ) (lines more : List Line) (is_history : IsHistory history)
    (is_register : IsRegister register) (are_mine : AreMine history.events register mine place) (linear : IsLinearization history (lines ++ more))
    (made : MadeBefore history.events lines place) where
  -- what a line's call asks for is mine where it is asked for the register's realm
  asked : (front back : List Line) (line : Line) (entry : JournalEntry) → lines ≡ front ++ line ∷ back → IsNext history.events front line
      → IsEntryOf history.events line entry → IsMineAsked register mine entry.command
  asked front back line entry whole next is_entry rd rec mpidr flags aux0 aux1 is =
      let cpu = cpu_named line in
      let all : count_of cpu lines ≡ count_of cpu (front ++ line ∷ back) = ap (λ (ls : List Line). count_of cpu ls) whole in
      let both : count_of cpu (front ++ line ∷ back) ≡ count_of cpu front + count_of cpu (line ∷ back) = count_of-append cpu front (line ∷ back) in
      let one : count_of cpu (line ∷ back) ≡ count_of cpu back + 1 = count_of-cons_same cpu line back refl in
      let at = next.numbered in
      let before = made cpu (number_named line) is_entry.called entry.command is_entry.is_called (omega (arith, all, both, one, at)) in
      are_mine is_entry.called cpu (number_named line) entry.command rd rec mpidr flags aux0 aux1 is_entry.is_called before is

  -- the lines behind those that reach a state are a run from the register's value there
  runs : (back front : List Line) (entries : List JournalEntry) (state last : State) (entered : ℕ → Option ℕ) (value : Option Measurement)
      → lines ≡ front ++ back → Reaches history front state → AreEntered history.events front entered → Knows state register mine entered value
      → AreEntriesOf history.events back entries → IsRun state entries last
      → (new : Option Measurement) × IsRegisterRun history.events register mine value back new
  runs [] front entries state last entered value whole reached are_entered knows claimed run = (value, refl)
  runs (line ∷ back) front [] state last entered value whole reached are_entered knows claimed run = absurd claimed
  runs (line ∷ back) front (entry ∷ entries) state last entered value whole reached are_entered knows claimed run =
      let is_entry : IsEntryOf history.events line entry = claimed.0 in
      let order : lines ++ more ≡ (front ++ line ∷ []) ++ (back ++ more) =
      ap (λ (ls : List Line). ls ++ more) whole ∙ append_assoc front (line ∷ back) more ∙ sym (append_assoc front (line ∷ []) (back ++ more)) in
      let valid = subst (λ (ls : List Line). IsLinearization history ls) order linear in
      let next = IsNext-linear history is_history front state reached line (back ++ more) valid in
      let cpu = cpu_named line in
      let sound = opened_run_sound history.config reached.passes.entries state reached.passes.run.run in
      let step = subst (λ (c : ℕ). Step state c entry.command entry.given run.0) is_entry.cpu run.1 in
      let done = done_call register mine (entered cpu) (call_of entry.command) entry.given in
      let after = step-knows state run.0 cpu entry.command entry.given register mine entered value sound is_register step
      (asked front back line entry whole next is_entry) knows in
      let rest = runs back (front ++ line ∷ []) entries run.0 last (entered_then entered cpu entry.command entry.given) (value_after done value)
      (whole ∙ sym (append_assoc front (line ∷ []) back))
      (Reaches-linear history is_history front state reached line (back ++ more) valid entry run.0 is_entry run.1)
      (AreEntered-push history is_history front entered are_entered line next entry is_entry) after.1 claimed.1 run.2 in
      let does : Does history.events register mine line value (value_after done value) = record {
        given = entry.given;
        done = done;
        is_done = record {
          entered = entered cpu;
          is_entered = IsEntered-next history is_history front entered are_entered line next entry is_entry;
          called = is_entry.called;
          command = entry.command;
          is_called = is_entry.is_called;
          is_given = is_entry.given;
          is = refl;
        };
        fits = after.0;
        after = refl;
      } in
      (rest.0, (value_after done value, does, rest.1))

-- so the first lines of a linearization are a run from where there is no register
pub register-runs : (history : History) (register : Register) (mine : ℕ → Bool) (place : ℕ) (lines more : List Line) → IsHistory history
    → IsRegister register → AreMine history.events register mine place → IsLinearization history (lines ++ more)
    → MadeBefore history.events lines place → (value : Option Measurement) × IsRegisterRun history.events register mine None lines value
register-runs history register mine place lines more is_history is_register are_mine linear made =
    let start = opening history.config in
    let parts = split_run history.events lines more linear.entries start linear.last linear.run.claimed linear.run.run in
    runs history register mine place lines more is_history is_register are_mine linear made lines [] parts.first start parts.middle (λ cpu. None) None
    refl (Reaches-nil history) (AreEntered-nil history.events) (Knows-opening history.config register mine) parts.claimed parts.run
