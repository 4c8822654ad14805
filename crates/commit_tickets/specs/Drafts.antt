-- What a CPU is about to commit.
use Rattle.std.specs.Prelude.{◌≡◌, ℕ, None, IsTrue, IsSomeAnd, MatchOption, List}
use Rattle.rmm_spec.specs.declared.command.Command.{Command}
use Rattle.rmm_spec.specs.Call.{call_of}
use Rattle.rmm_spec.specs.HistoryText.{Config}
use Rattle.rmm_spec.specs.Local.{HeldCell, Hold}
use Rattle.command_core.specs.Changed.{given_of}
use Rattle.command_core.specs.Decided.{settled_answer}
use Rattle.command_core.specs.Foreseen.{IsDecision, change_of, unlisted}
use Rattle.command_core.specs.Rooms.{IsRoomFor, makes_table}
use Rattle.command_core.specs.Seen.{place_of}
use Rattle.granule_lock.specs.HeldCells.{hold_cells}
use Rattle.commit_tickets.specs.declared.draft.Draft.{Draft}
use Rattle.commit_tickets.specs.declared.draft.Entered.{Entered}
use Rattle.commit_tickets.specs.View.{TokenView}

-- The draft is what a side table that lists nothing answers, and isn't in the journal. It has the room for its change, or the change
-- makes a table.
pub record IsDraft (config : Config) (command : Command) (token : TokenView) (cells : List HeldCell) (draft : Draft) : Type 0 where
  pub foreseen : draft.answer ≡ settled_answer config token.cpu (call_of command) cells unlisted (place_of token.place)
  pub room : MatchOption draft.room (IsTrue (makes_table (change_of draft.answer))) (IsRoomFor (change_of draft.answer))
  pub fresh : draft.entered ≡ None

-- The draft is a decision on what is held, with the room for its change.
pub record IsDecided (config : Config) (cpu : ℕ) (command : Command) (hold : Hold) (draft : Draft) : Type 0 where
  pub decision : IsDecision config cpu command hold (given_of draft.answer) (change_of draft.answer)
  pub room : IsSomeAnd draft.room (IsRoomFor (change_of draft.answer))

-- the draft was entered by this CPU, on these cells
abbrev pub IsEnteredOn : Draft → ℕ → List HeldCell → Type 0
IsEnteredOn draft cpu cells = IsSomeAnd draft.entered (λ (on : Entered). (on.cpu.value ≡ cpu) × (hold_cells on.hold.value ≡ cells))
