-- What is read of a text whose first bytes were given.
use Rattle.std.specs.Prelude.{⊤, ℕ, ◌+◌, List, [], length, Option, Some, None, Result, Ok, Err}
use Rattle.rmm_spec.specs.HistoryText.{IsHistory, history_text}
use Rattle.history.specs.View.{Recording}
use Rattle.history.specs.declared.fault.HistoryFault.{HistoryFault}

-- the whole lines: none before the header, and then those of the history so far
abbrev pub lines_read : Option Recording → List ℕ
lines_read None = []
lines_read (Some recording) = history_text recording.recorded

abbrev pub IsReadWell : Option Recording → Type 0
IsReadWell None = ⊤
IsReadWell (Some recording) = IsHistory recording.recorded

-- the number of the line behind them, counted from 1
abbrev pub next_number : Option Recording → ℕ
next_number None = 1
next_number (Some recording) = length recording.recorded.events + 2

-- the bytes that were given, or the fault by which the reader has failed
abbrev pub given_or_fault : List ℕ → Option HistoryFault → Result (List ℕ) HistoryFault
given_or_fault given None = Ok given
given_or_fault given (Some fault) = Err fault
