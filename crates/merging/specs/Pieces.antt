-- What was read of a text that comes in pieces.
use Rattle.std.specs.Prelude.{◌≡◌, ℕ, ◌+◌, List, [], ◌++◌, Option, Some, None}
use Rattle.merging.specs.Faults.{IsTableOf}
use Rattle.merging.specs.Table.{Table}
use Rattle.merging.specs.declared.reader.Reader.{Reader}

-- whole lines were read, to a table where the header is one of them
abbrev pub AreRead : Option Table → List ℕ → Type 0
AreRead None lines = lines ≡ []
AreRead (Some table) lines = IsTableOf lines table

-- and behind them the first bytes of the next
pub record HasRead (reader : Reader) (text : List ℕ) : Type 0 where
  pub lines : List ℕ
  pub are_read : AreRead reader.table lines
  pub is_text : text ≡ lines ++ reader.line

-- the number of the line behind them
abbrev pub number_after : Option Table → ℕ
number_after (Some table) = table.count + 2
number_after None = 1
