-- Along an order: what holds before any line and stays so with each next one holds where a finished call's line comes.
use Rattle.verdict_laws.proofs.Common.{◌∙◌, refl, ◌≡◌, ℕ, List, [], ◌∷◌, ◌++◌, inl, inr, sym, subst, arith, append_assoc, cases_lt, none-some, Command, Called, Line, Reply, History, IsHistory, IsRun, JournalEntry, AreEntriesOf, IsCalled, IsFinished, IsLinearization, IsNamed, IsReturned, ReturnsBefore, cpu_named, number_named, IsSound, State, opening, Step, LeadsNowhere, count_of, HasOnePlaces-from_history}
use Rattle.std.proofs.Common.{take}
use Rattle.std.proofs.lemmas.List.{append-nil}
use Rattle.lemmas.proofs.Elements.{slice_get-take}
use Rattle.spec_lemmas.proofs.Calls.{same_command, IsNamed-push_cases}
use Rattle.spec_lemmas.proofs.HistoryGrammar.{IsHistory-take}
use Rattle.rmm_laws.proofs.Runs.{opened_run_sound}
use Rattle.verdict_laws.specs.Order.{IsNext, Reaches}
use Rattle.verdict_laws.specs.Parts.{first_part}
use Rattle.verdict_laws.proofs.Growth.{Reaches-nil}
use Rattle.verdict_laws.proofs.Nowhere.{nowhere_past}
use Rattle.verdict_laws.proofs.Reached.{IsNext-linear, Reaches-linear}
use Rattle.verdict_laws.proofs.SliceLines.{Claim, Names}

-- Lines of an order have led to the state, and the next one's commit leads on. They don't name its call, but each call that returned before its call
-- was made, and none that was made after its call returned.
pub record LeadsOn (history : History) (lines : List Line) (s : State) (c : Claim history.events) (new : State) : Type 0 where
  pub sound : IsSound s
  pub next : IsNext history.events lines c.line
  pub step : Step s c.entry.cpu c.entry.command c.entry.given new
  pub fresh : ¬ IsNamed lines (cpu_named c.line) (number_named c.line)
  pub earlier : (cpu number : ℕ) → ReturnsBefore history.events cpu number (cpu_named c.line) (number_named c.line) → IsNamed lines cpu number
  pub in_time : (cpu number : ℕ) → IsNamed lines cpu number → ¬ ReturnsBefore history.events (cpu_named c.line) (number_named c.line) cpu number

module _ (history : History) (is_history : IsHistory history) where
  -- the line that an order has next is such
  LeadsOn-linear : (lines back : List Line) (s new : State) (c : Claim history.events) → IsLinearization history ((lines ++ c.line ∷ []) ++ back)
      → Reaches history lines s → Step s c.entry.cpu c.entry.command c.entry.given new → LeadsOn history lines s c new
  LeadsOn-linear lines back s new c valid reached step =
      let next = IsNext-linear history is_history lines s reached c.line back valid in
      record {
        sound = opened_run_sound history.config reached.passes.entries s reached.passes.run.run;
        next = next;
        step = step;
        fresh = λ named.
            let below = reached.named (cpu_named c.line) (number_named c.line) named in
            let at = next.numbered in
            omega (arith, below, at);
        earlier = λ cpu number returns. elim (cases_lt number (count_of cpu lines)) [
          | inl below ↦ reached.first cpu number below
          | inr above ↦
              absurd ((nowhere_past history is_history lines s reached c.line cpu number (returns.returned, returns.given, returns.is_returned)
              (λ below. omega (arith, below, above)) returns).none back valid)
        ];
        in_time = λ cpu number named returns.
            let before = ReturnsBefore history.events (cpu_named c.line) (number_named c.line) in
            reached.in_time c.line (λ also.
            let below = reached.named (cpu_named c.line) (number_named c.line) also in
            let at = next.numbered in
            omega (arith, below, at))
            (named.0, named.1, named.2, subst (λ (k : ℕ). before k (number_named named.1)) (sym named.3) (subst (before cpu) (sym named.4) returns));
      }

  -- Of an order each line comes so. What holds before any, stays so with each next one and refutes a finished call's contradicts it.
  module _ (cpu number : ℕ) (finished : IsFinished history.events cpu number) (all : List Line)
      (ComesSo : List Line → Claim history.events → Type 0) (P : List Line → State → Type 0)
      (comes_so : (lines back : List Line) (c : Claim history.events) → (lines ++ c.line ∷ []) ++ back ≡ all → ComesSo lines c)
      (refutes : (lines : List Line) (s new : State) (c : Claim history.events) → LeadsOn history lines s c new → ComesSo lines c → P lines s
      → ¬ Names cpu number c)
      (keeps : (lines : List Line) (s new : State) (c : Claim history.events) → LeadsOn history lines s c new → ComesSo lines c → P lines s
      → P (lines ++ c.line ∷ []) new) where
    -- the call never comes behind lines that don't name it
    never : (back lines : List Line) (entries : List JournalEntry) (s last : State) → lines ++ back ≡ all → IsLinearization history (lines ++ back)
        → Reaches history lines s → P lines s → ¬ IsNamed lines cpu number → AreEntriesOf history.events back entries → IsRun s entries last → ⊥
    never [] lines entries s last same valid reached is unnamed claimed run =
        unnamed (subst (λ (ls : List Line). IsNamed ls cpu number) (append-nil lines) (valid.order.complete cpu number finished))
    never (line ∷ back) lines [] s last same valid reached is unnamed claimed run = absurd claimed
    never (line ∷ back) lines (e ∷ entries) s last same valid reached is unnamed claimed run =
        let parts = append_assoc lines (line ∷ []) back in
        let order = subst (IsLinearization history) (sym parts) valid in
        let next = IsNext-linear history is_history lines s reached line back order in
        let c : Claim history.events = record { line = line; entry = e; kind = next.kind; is_entry = claimed.0 } in
        let leads = LeadsOn-linear lines back s run.0 c order reached run.1 in
        let so = comes_so lines back c (parts ∙ same) in
        never back (lines ++ line ∷ []) entries run.0 last (parts ∙ same) order
        (Reaches-linear history is_history lines s reached line back order e run.0 claimed.0 run.1) (keeps lines s run.0 c leads so is)
        (λ named. elim (IsNamed-push_cases lines line cpu number named) [
          | inl before ↦ unnamed before
          | inr own ↦ refutes lines s run.0 c leads so is own
        ]) claimed.1 run.2

    -- so the order is none
    pub not-along : P [] (opening history.config) → ¬ IsLinearization history all
    not-along is valid =
        never all [] valid.entries (opening history.config) valid.last refl valid (Reaches-nil history) is (λ named. none-some named.1 named.2)
        valid.run.claimed valid.run.run

  -- What holds before any line, stays so with each next one and refutes a finished call's leaves no order.
  pub nowhere-along : (cpu number : ℕ) → IsFinished history.events cpu number → (P : List Line → State → Type 0)
      → ((lines : List Line) (s new : State) (c : Claim history.events) → LeadsOn history lines s c new → P lines s → ¬ Names cpu number c)
      → ((lines : List Line) (s new : State) (c : Claim history.events) → LeadsOn history lines s c new → P lines s
      → P (lines ++ c.line ∷ []) new) → P [] (opening history.config) → LeadsNowhere history []
  nowhere-along cpu number finished P refutes keeps is = record {
    none = λ lines.
        not-along cpu number finished lines (λ before c. Unit {0}) P (λ before back c same. tt)
        (λ before s new c leads so. refutes before s new c leads) (λ before s new c leads so. keeps before s new c leads) is;
  }

-- ---- first events

-- a call whose return is one of a history's first events is made in one of them
pub called_first : (history : History) (count cpu number called returned : ℕ) (command : Command) (given : Reply) → IsHistory history
    → IsCalled history.events called cpu number command → IsReturned (take count history.events) returned cpu number given
    → IsCalled (take count history.events) called cpu number command
called_first history count cpu number called returned command given is_history is_called is_returned =
    let part = take count history.events in
    let one = HasOnePlaces-from_history history is_history in
    let known = (HasOnePlaces-from_history (first_part count history) (IsHistory-take count history is_history)).is_known cpu number
    (returned, given, is_returned) in
    let within = (slice_get-take count history.events known.0 (Called cpu number known.1) known.2).1 in
    let at = one.one_call known.0 called cpu number known.1 command within is_called in
    let same = same_command history.events one known.0 called cpu number known.1 command within is_called in
    subst (λ (m : Command). IsCalled part called cpu number m) same (subst (λ (p : ℕ). IsCalled part p cpu number known.1) at known.2)
