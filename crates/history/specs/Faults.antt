-- What a fault says of the text.
use Rattle.std.specs.Prelude.{◌≡◌, ℕ, ◌<◌, ◌≤◌, List, ◌++◌, length, take}
use Rattle.rmm_spec.specs.Text.{IsBadLine}
use Rattle.rmm_spec.specs.HistoryText.{History, IsHistory, IsHistoryText, InHistories, history_text}
use Rattle.history.specs.declared.fault.HistoryFault.{HistoryFault}
use Rattle.history.specs.declared.fault.HistoryFault.TheVariants.{BadLine, NoMemory}

-- the first lines of the text are the history
pub record BeginsWith (text : List ℕ) (history : History) : Type 0 where
  pub more : List ℕ
  pub is_history : IsHistory history
  pub is_text : text ≡ history_text history ++ more

-- of a reader: a bad line is the first one, and memory was refused for an event that was read
abbrev pub IsFaultOf : List ℕ → HistoryFault → Type 0
IsFaultOf text (BadLine line) = IsBadLine InHistories text line
IsFaultOf text NoMemory = (history : History) × (0 < length history.events) × BeginsWith text history

-- of a reader and a writer: memory may have been refused for the writing of a history without events too
abbrev pub IsFaultOfRewriting : List ℕ → HistoryFault → Type 0
IsFaultOfRewriting text (BadLine line) = IsBadLine InHistories text line
IsFaultOfRewriting text NoMemory = (history : History) × BeginsWith text history

-- the text ends with the line of an event
abbrev pub EndsWithEvent : List ℕ → Type 0
EndsWithEvent text = (history : History) × (0 < length history.events) × IsHistoryText text history

-- of a reader in pieces, where memory was refused: the line of that event ends in the piece
pub record EventEndsIn (given piece : List ℕ) : Type 0 where
  pub count : ℕ
  pub some : 0 < count
  pub within : count ≤ length piece
  pub ends : EndsWithEvent (given ++ take count piece)
