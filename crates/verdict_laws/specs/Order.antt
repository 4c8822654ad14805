-- Orders that are begun: which calls stand in them, which can come next, and which no certificate continues.
use Rattle.std.specs.Prelude.{⊤, ◌≡◌, ℕ, ◌+◌, ◌<◌, ◌≤◌, ◌==◌, if◌then◌else◌, List, [], ◌∷◌, ◌++◌}
use Rattle.rmm_spec.specs.declared.command.Command.{Command}
use Rattle.rmm_spec.specs.declared.event.Event.{Event}
use Rattle.rmm_spec.specs.declared.line.Line.{Line}
use Rattle.rmm_spec.specs.declared.reply.Reply.{Reply}
use Rattle.rmm_spec.specs.declared.reply.Reply.TheVariants as reply
use Rattle.rmm_spec.specs.HistoryText.{History}
use Rattle.rmm_spec.specs.State.{State}
use Rattle.rmm_spec.specs.Step.{Step}
use Rattle.rmm_spec.specs.Run.{JournalEntry}
use Rattle.rmm_spec.specs.Linearization.{IsCalled, IsReturned, IsFinished, cpu_named, number_named, NamesCall, IsOfItsKind, IsNamed, IsTooLate, IsEntryOf, IsLinearization}
use Rattle.rmm_spec.specs.FirstFault.{Passes}

-- how many of the lines name a call of the CPU
unfoldable pub count_of : ℕ → List Line → ℕ
count_of cpu [] = 0
count_of cpu (line ∷ lines) = (if cpu_named line == cpu then 1 else 0) + count_of cpu lines

-- The lines pass and lead to the state. They name the first calls of each CPU, and each call that they don't name returned, if
-- at all, after every call that they name was made.
pub record Reaches (history : History) (lines : List Line) (state : State) : Type 0 where
  pub passes : Passes history lines state
  pub named : (cpu number : ℕ) → IsNamed lines cpu number → number < count_of cpu lines
  pub first : (cpu number : ℕ) → number < count_of cpu lines → IsNamed lines cpu number
  pub in_time : (line : Line) → ¬ IsNamed lines (cpu_named line) (number_named line) → ¬ IsTooLate history.events lines line

-- no certificate that begins with the lines is a linearization
pub record LeadsNowhere (history : History) (lines : List Line) : Type 0 where
  pub none : (more : List Line) → ¬ IsLinearization history (lines ++ more)

-- each finished call that isn't among the first of its CPU returned behind the place
abbrev pub ReturnBehind : List Event → List Line → ℕ → Type 0
ReturnBehind events lines place =
    (cpu number returned : ℕ) (given : Reply) → IsReturned events returned cpu number given → count_of cpu lines ≤ number → place < returned

-- the line names a call of its kind, the first of its CPU that isn't among the lines
pub record IsNext (events : List Event) (lines : List Line) (line : Line) : Type 0 where
  pub known : NamesCall events line
  pub kind : IsOfItsKind events line
  pub numbered : number_named line ≡ count_of (cpu_named line) lines

-- a finished call isn't among the lines
pub record HasOpen (events : List Event) (lines : List Line) : Type 0 where
  pub cpu : ℕ
  pub number : ℕ
  pub finished : IsFinished events cpu number
  pub unnamed : count_of cpu lines ≤ number

-- whatever the specification gives the line's call in the state, if it is what the line claims, leads nowhere
abbrev pub GivesNowhere : History → List Line → State → Line → Type 0
GivesNowhere history lines old line =
    (entry : JournalEntry) (new : State) → IsEntryOf history.events line entry → Step old entry.cpu entry.command entry.given new
    → LeadsNowhere history (lines ++ line ∷ [])

-- the specification gives the next line's call its reply, and no open call returned before that call was made
pub record Grows (history : History) (lines : List Line) (old : State) (line : Line) (new : State) : Type 0 where
  pub next : IsNext history.events lines line
  pub called : ℕ
  pub command : Command
  pub is_called : IsCalled history.events called (cpu_named line) (number_named line) command
  pub soon : ReturnBehind history.events lines called
  pub entry : JournalEntry
  pub is_entry : IsEntryOf history.events line entry
  pub step : Step old entry.cpu entry.command entry.given new

-- a condition didn't hold, or the CPU is elsewhere: nothing changed
abbrev pub IsRefusal : Reply → Type 0
IsRefusal (reply.Ok words) = ⊥
IsRefusal (reply.Err status index) = ⊤
IsRefusal reply.Misplaced = ⊤
