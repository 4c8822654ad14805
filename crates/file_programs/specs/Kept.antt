-- What a history's reader was given, and what is kept of it.
use Rattle.std.specs.Prelude.{◌≡◌, ℕ, List, Option, IfSome, Result, Err}
use Rattle.history.specs.declared.fault.HistoryFault.{HistoryFault}
use Rattle.history.specs.declared.fault.HistoryFault.TheVariants.{BadLine}
use Rattle.check_command.specs.Taken.{HasTaken}

-- the reader was given the text, which is kept, and where a bad line is known it is the reader's
pub record HasKept (reader : Result (List ℕ) HistoryFault) (kept : List ℕ) (bad : Option ℕ) (text : List ℕ) : Type 0 where
  pub taken : HasTaken reader text
  pub is_text : kept ≡ text
  pub known : IfSome bad (λ line. reader ≡ Err (BadLine line))
