-- Where a turn may be refused memory: where its step records something, and there is no room left for that.
use Rattle.std.specs.Prelude.{◌≡◌, ℕ, ◌<◌, ◌⊎◌, true, IsTrue, IsOk, [], length}
use Rattle.rmm_spec.specs.HistoryText.{Config}
use Rattle.rmm_spec.specs.declared.change.Change.{Change}
use Rattle.rmm_spec.specs.declared.command.Command.{Command}
use Rattle.rmm_spec.specs.declared.reply.Reply.{Reply}
use Rattle.rmm_spec.specs.Call.{call_of}
use Rattle.rmm_spec.specs.Flat.{flat_state}
use Rattle.rmm_spec.specs.Local.{Hold}
use Rattle.rmm_spec.specs.Ownership.{is_accepted}
use Rattle.rmm_spec.specs.Step.{outcome}
use Rattle.rmm_spec.specs.World.{World, Phase, Between, Deciding, Decided, GivenUp, Stopped, held_cells, hold_of}
use Rattle.command_core.specs.Changed.{CanChange, Decides}
use Rattle.command_core.specs.Rooms.{makes_table}
use Rattle.command_core.specs.Settled.{is_settled}
use Rattle.world.specs.declared.world.World as own

-- ---- what is recorded

-- A step records a call where a command is left, a commit where what the CPU holds settles its open call, and a return where
-- the CPU holds nothing any more. Between its commit and its return it frees locks, and a CPU that has ended makes no step.
abbrev pub RecordsIn : World → ℕ → Phase → Type 0
RecordsIn w cpu (Between number) = 0 < length (w.program cpu)
RecordsIn w cpu (Deciding number command learnt) = IsTrue (is_settled w.config (call_of command) (w.place cpu) (held_cells w cpu))
RecordsIn w cpu (Decided number command given) = w.taken cpu ≡ []
RecordsIn w cpu GivenUp = ⊥
RecordsIn w cpu Stopped = ⊥

-- a CPU that goes on records something
abbrev pub Records : World → ℕ → Type 0
Records w cpu = RecordsIn w cpu (w.phase cpu)

-- ---- room for it

-- how many calls and returns more are sure to take no memory, and how many commits
unfoldable pub event_room : own.World → ℕ
event_room w = w.history.room

unfoldable pub commit_room : own.World → ℕ
commit_room w = w.journal.room

-- What is decided on that hold is accepted, and puts a table into a granule that is held.
pub record MakesTable (config : Config) (cpu : ℕ) (command : Command) (hold : Hold) : Type 0 where
  pub given : Reply
  pub change : Change
  pub decides : Decides config cpu command hold given change
  pub can : CanChange cpu hold change
  pub accepts : is_accepted given ≡ true
  pub is_table : IsTrue (makes_table change)

-- The machine accepts the command in the state that the cells stand for, and the change puts in a table, which takes memory
-- each time.
pub record AcceptsTable (w : World) (cpu : ℕ) (command : Command) : Type 0 where
  pub accepts : IsOk (outcome (flat_state w.config w.cells) cpu (call_of command))
  pub makes : MakesTable w.config cpu command (hold_of w cpu)

-- There is no room for the event, or none for the commit; or the command is accepted and makes a table.
abbrev pub IsShortIn : ℕ → ℕ → World → ℕ → Phase → Type 0
IsShortIn events commits w cpu (Deciding number command learnt) = (commits ≡ 0) ⊎ AcceptsTable w cpu command
IsShortIn events commits w cpu _ = events ≡ 0

abbrev pub IsShort : ℕ → ℕ → World → ℕ → Type 0
IsShort events commits w cpu = IsShortIn events commits w cpu (w.phase cpu)
