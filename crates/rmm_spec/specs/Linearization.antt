-- Linearizations after Herlihy and Wing (1990), of the one order that a certificate claims: its lines tell which pending calls
-- count, and the order is legal and keeps real time.
-- A place is an index into the events of a history: the event's line in the text is two lines further, counted from 1.
use Rattle.std.specs.Prelude.{◌≡◌, ℕ, ◌<◌, List, [], ◌∷◌, slice_get, Some}
use Rattle.rmm_spec.specs.declared.command.Command.{Command}
use Rattle.rmm_spec.specs.declared.event.Event.{Event}
use Rattle.rmm_spec.specs.declared.event.Event.TheVariants.{Called, Returned}
use Rattle.rmm_spec.specs.declared.line.Line.{Line}
use Rattle.rmm_spec.specs.declared.line.Line.TheVariants.{Keep, Unfinished}
use Rattle.rmm_spec.specs.declared.reply.Reply.{Reply}
use Rattle.rmm_spec.specs.HistoryText.{History}
use Rattle.rmm_spec.specs.State.{State, opening}
use Rattle.rmm_spec.specs.Run.{JournalEntry, IsRun}

-- call number of cpu is made at the place
abbrev pub IsCalled : List Event → ℕ → ℕ → ℕ → Command → Type 0
IsCalled events place cpu number command = slice_get events place ≡ Some (Called cpu number command)

-- call number of cpu returns at the place
abbrev pub IsReturned : List Event → ℕ → ℕ → ℕ → Reply → Type 0
IsReturned events place cpu number given = slice_get events place ≡ Some (Returned cpu number given)

abbrev pub IsKnown : List Event → ℕ → ℕ → Type 0
IsKnown events cpu number = (place : ℕ) × (command : Command) × IsCalled events place cpu number command

abbrev pub IsFinished : List Event → ℕ → ℕ → Type 0
IsFinished events cpu number = (place : ℕ) × (given : Reply) × IsReturned events place cpu number given

-- the one call returned before the other was made
pub record ReturnsBefore (events : List Event) (cpu number later_cpu later_number : ℕ) : Type 0 where
  pub returned : ℕ
  pub given : Reply
  pub is_returned : IsReturned events returned cpu number given
  pub called : ℕ
  pub command : Command
  pub is_called : IsCalled events called later_cpu later_number command
  pub before : returned < called

-- ---- lines of a certificate

abbrev pub cpu_named : Line → ℕ
cpu_named (Keep cpu number) = cpu
cpu_named (Unfinished cpu number given) = cpu

abbrev pub number_named : Line → ℕ
number_named (Keep cpu number) = number
number_named (Unfinished cpu number given) = number

abbrev pub NamesSame : Line → Line → Type 0
NamesSame line other = (cpu_named line ≡ cpu_named other) × (number_named line ≡ number_named other)

-- the line names a call of the history
abbrev pub NamesCall : List Event → Line → Type 0
NamesCall events line = IsKnown events (cpu_named line) (number_named line)

-- a kept line names a finished call, and an unfinished line an unfinished one
abbrev pub IsOfItsKind : List Event → Line → Type 0
IsOfItsKind events (Keep cpu number) = IsFinished events cpu number
IsOfItsKind events (Unfinished cpu number given) = ¬ IsFinished events cpu number

-- one of the lines names the call
abbrev pub IsNamed : List Line → ℕ → ℕ → Type 0
IsNamed lines cpu number =
    (i : ℕ) × (line : Line) × (slice_get lines i ≡ Some line) × (cpu_named line ≡ cpu) × (number_named line ≡ number)

-- the call of the later line returned before the call of one of the lines was made
abbrev pub IsTooLate : List Event → List Line → Line → Type 0
IsTooLate events lines later =
    (i : ℕ) × (line : Line) × (slice_get lines i ≡ Some line)
    × ReturnsBefore events (cpu_named later) (number_named later) (cpu_named line) (number_named line)

-- ---- orders

-- Each line names a call of its kind, and no two lines the same.
pub record NamesCalls (events : List Event) (lines : List Line) : Type 0 where
  pub known : (i : ℕ) (line : Line) → slice_get lines i ≡ Some line → NamesCall events line
  pub kinds : (i : ℕ) (line : Line) → slice_get lines i ≡ Some line → IsOfItsKind events line
  pub once : (i j : ℕ) (line other : Line) → i < j → slice_get lines i ≡ Some line → slice_get lines j ≡ Some other → ¬ NamesSame line other

-- The lines name each finished call once, some unfinished ones once, and nothing else.
pub record IsOrderOf (events : List Event) (lines : List Line) : Type 0 where
  pub names : NamesCalls events lines
  pub complete : (cpu number : ℕ) → IsFinished events cpu number → IsNamed lines cpu number

-- No call returned before the call of an earlier line was made, over all pairs of lines.
abbrev pub KeepsRealTime : List Event → List Line → Type 0
KeepsRealTime events lines =
    (i j : ℕ) (line later : Line) → i < j → slice_get lines i ≡ Some line → slice_get lines j ≡ Some later
    → ¬ ReturnsBefore events (cpu_named later) (number_named later) (cpu_named line) (number_named line)

-- the reply of a kept line is the recorded one, that of an unfinished line its own
abbrev pub IsReplyOf : List Event → Line → Reply → Type 0
IsReplyOf events (Keep cpu number) given = (place : ℕ) × IsReturned events place cpu number given
IsReplyOf events (Unfinished cpu number claimed) given = given ≡ claimed

-- the commit that a line claims
pub record IsEntryOf (events : List Event) (line : Line) (entry : JournalEntry) : Type 0 where
  pub cpu : entry.cpu ≡ cpu_named line
  pub called : ℕ
  pub is_called : IsCalled events called (cpu_named line) (number_named line) entry.command
  pub given : IsReplyOf events line entry.given

-- the commits that the lines claim, in their order
abbrev pub AreEntriesOf : List Event → List Line → List JournalEntry → Type 0
AreEntriesOf events [] [] = Unit {0}
AreEntriesOf events (line ∷ lines) (entry ∷ entries) = IsEntryOf events line entry × AreEntriesOf events lines entries
AreEntriesOf events [] (entry ∷ entries) = ⊥
AreEntriesOf events (line ∷ lines) [] = ⊥

-- the machine gives each claimed reply in the order of the lines, from the opening to this state
pub record IsRunOf (history : History) (lines : List Line) (entries : List JournalEntry) (last : State) : Type 0 where
  pub claimed : AreEntriesOf history.events lines entries
  pub run : IsRun (opening history.config) entries last

pub record IsLinearization (history : History) (lines : List Line) : Type 0 where
  pub order : IsOrderOf history.events lines
  pub real_time : KeepsRealTime history.events lines
  pub entries : List JournalEntry
  pub last : State
  pub run : IsRunOf history lines entries last
