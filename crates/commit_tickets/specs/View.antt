-- What contracts see of a journal and of a token.
use Rattle.std.specs.Prelude.{ℕ, zero, suc, Bool, false, List, [], ◌∷◌, ◌++◌, Option, None}
use Rattle.atomic_table.specs.Seated.{TableId}
use Rattle.rmm_spec.specs.declared.command.Command.{Command}
use Rattle.rmm_spec.specs.declared.reply.Reply.{Reply}
use Rattle.rmm_spec.specs.HistoryText.{Config}
use Rattle.rmm_spec.specs.Local.{HeldCell, Hold}
use Rattle.rmm_spec.specs.Run.{JournalEntry}
use Rattle.granule_cells.specs.declared.cpu_place.CpuPlace.{CpuPlace}
use Rattle.granule_cells.specs.declared.cpu_place.CpuPlace.TheVariants.{Outside}
use Rattle.granule_cells.specs.declared.side.Side.{Side}
use Rattle.command_core.specs.Changed.{hold_of}
use Rattle.command_core.specs.Seen.{place_of}
use Rattle.command_core.specs.Sides.{side_of}
use Rattle.commit_tickets.specs.declared.fault.CommitFault.{CommitFault}
use Rattle.commit_tickets.specs.Entries.{Committed}

-- the name of no queue
abbrev pub no_queue : TableId
no_queue = record { words = 0; slots = 0; views_name = 0; atom = 0; block = 0; offset = 0; slot_names = [] }

-- A machine's size, all commits in their order, the side table to which they have led, and for how many more there is room.
pub record JournalView : Type 0 where
  pub config : Config
  pub entries : List JournalEntry
  pub side : Side
  pub room : ℕ

-- A CPU, where it is, its own commits in their order, for how many more its list has room, why its last commit was refused, and of
-- how many entries of the journal, from the first on, it was told.
pub record TokenView : Type 0 where
  pub cpu : ℕ
  pub place : CpuPlace
  pub is_stopped : Bool
  pub mine : List Committed
  pub room : ℕ
  pub fault : Option CommitFault
  pub seen : ℕ

abbrev pub before_commits : ℕ → TokenView
before_commits cpu = record { cpu = cpu; place = Outside; is_stopped = false; mine = []; room = 0; fault = None; seen = 0 }

-- the tokens of the first so many CPUs
abbrev pub first_tokens : ℕ → List TokenView
first_tokens zero = []
first_tokens (suc cpu) = first_tokens cpu ++ before_commits cpu ∷ []

abbrev pub entry : ℕ → Command → Reply → JournalEntry
entry cpu command reply = record { cpu = cpu; command = command; given = reply }

-- what a CPU decides on: the cells that it holds, the journal's side table, and its own place
abbrev pub hold_with : JournalView → TokenView → List HeldCell → Hold
hold_with journal token cells = hold_of cells (side_of journal.side) (place_of token.place)
