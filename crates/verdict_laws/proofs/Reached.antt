-- The next line of a linearization names the next call of its CPU, so that each first part of the lines reaches its state.
use Rattle.verdict_laws.proofs.Common.{◌≡◌, ℕ, List, [], ◌∷◌, ◌++◌, inl, inr, length, sym, subst, arith, cases_order, Command, Line, History, IsHistory, State, Step, JournalEntry, IsCalled, IsReturned, IsEntryOf, IsLinearization, cpu_named, number_named, count_of}
use Rattle.verdict_laws.specs.Order.{IsNext, Reaches, ReturnBehind}
use Rattle.verdict_laws.proofs.Steps.{apart_places}
use Rattle.verdict_laws.proofs.Growth.{Reaches-push}
use Rattle.verdict_laws.proofs.Nowhere.{line_stands, nowhere_past, nowhere_unless}

module _ (history : History) (is_history : IsHistory history) (lines : List Line) (state : State) (reached : Reaches history lines state)
    (line : Line) (more : List Line) (valid : IsLinearization history ((lines ++ line ∷ []) ++ more)) where
  -- its number is the count of its CPU's lines before it
  numbered : number_named line ≡ count_of (cpu_named line) lines
  numbered = elim (cases_order (number_named line) (count_of (cpu_named line) lines)) [
    | inl at ↦ at
    | inr apart ↦
        absurd ((nowhere_unless history is_history lines state reached line (λ next.
        absurd (elim apart [
          | inl below ↦ let at = next.numbered in omega (arith, below, at)
          | inr above ↦ let at = next.numbered in omega (arith, above, at)
        ]))).none more valid)
  ]

  -- so it is the next call of its CPU
  pub IsNext-linear : IsNext history.events lines line
  IsNext-linear = record {
    known = valid.order.names.known (length lines) line (line_stands lines line more);
    kind = valid.order.names.kinds (length lines) line (line_stands lines line more);
    numbered = numbered;
  }

  -- what isn't among the lines returns behind its call
  soon : (called : ℕ) (command : Command) → IsCalled history.events called (cpu_named line) (number_named line) command
      → ReturnBehind history.events lines called
  soon called command is_called cpu number returned given is above = elim (cases_order called returned) [
    | inl at ↦
        absurd (apart_places history.events called (cpu_named line) (number_named line) cpu number command given is_called
        (subst (λ (p : ℕ). IsReturned history.events p cpu number given) (sym at) is))
    | inr apart ↦ elim apart [
      | inl before ↦ before
      | inr after ↦
          absurd ((nowhere_past history is_history lines state reached line cpu number (returned, given, is) (λ below. omega (arith, below, above))
          (record {
            returned = returned;
            given = given;
            is_returned = is;
            called = called;
            command = command;
            is_called = is_called;
            before = after;
          })).none more valid)
    ]
  ]

  -- with it the lines reach the state that it leads to
  pub Reaches-linear : (entry : JournalEntry) (new : State) → IsEntryOf history.events line entry
      → Step state entry.cpu entry.command entry.given new → Reaches history (lines ++ line ∷ []) new
  Reaches-linear entry new is_entry step =
      Reaches-push history is_history lines state reached line new (record {
        next = IsNext-linear;
        called = is_entry.called;
        command = entry.command;
        is_called = is_entry.is_called;
        soon = soon is_entry.called entry.command is_entry.is_called;
        entry = entry;
        is_entry = is_entry;
        step = step;
      })
