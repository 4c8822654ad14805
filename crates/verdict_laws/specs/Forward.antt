-- Orders that are kept while the events of a history are read, one after the other, and what they become at a return.
-- A place is that of the event which is read next.
use Rattle.std.specs.Prelude.{◌≡◌, ℕ, ◌<◌, ◌≤◌, List, [], ◌∷◌, ◌++◌, slice_get, Some}
use Rattle.rmm_spec.specs.declared.command.Command.{Command}
use Rattle.rmm_spec.specs.declared.event.Event.{Event}
use Rattle.rmm_spec.specs.declared.line.Line.{Line}
use Rattle.rmm_spec.specs.declared.line.Line.TheVariants.{Keep}
use Rattle.rmm_spec.specs.declared.reply.Reply.{Reply}
use Rattle.rmm_spec.specs.HistoryText.{History}
use Rattle.rmm_spec.specs.State.{State}
use Rattle.rmm_spec.specs.Run.{JournalEntry, IsRun}
use Rattle.rmm_spec.specs.Linearization.{IsCalled, IsReturned, AreEntriesOf, cpu_named, number_named}
use Rattle.verdict_laws.specs.Order.{IsNext, LeadsNowhere, Reaches, count_of}

-- ---- one order

-- each call that isn't among the lines returns at the place or behind it, if at all
abbrev pub ReturnFrom : List Event → List Line → ℕ → Type 0
ReturnFrom events lines place =
    (cpu number returned : ℕ) (given : Reply) → IsReturned events returned cpu number given → count_of cpu lines ≤ number → place ≤ returned

-- each call among the lines was made before the place
abbrev pub MadeBefore : List Event → List Line → ℕ → Type 0
MadeBefore events lines place =
    (cpu number called : ℕ) (command : Command) → IsCalled events called cpu number command → number < count_of cpu lines → called < place

-- The lines lead to the state, name each call that returned before the place, and none that was made later.
pub record IsKept (history : History) (place : ℕ) (lines : List Line) (state : State) : Type 0 where
  pub reached : Reaches history lines state
  pub returned : ReturnFrom history.events lines place
  pub made : MadeBefore history.events lines place

-- ---- open calls

-- the line names the first call of its CPU that isn't among the lines, which was made before the place
pub record IsOpen (events : List Event) (place : ℕ) (lines : List Line) (line : Line) : Type 0 where
  pub next : IsNext events lines line
  pub called : ℕ
  pub command : Command
  pub is_called : IsCalled events called (cpu_named line) (number_named line) command
  pub before : called < place

-- each further line names such a call, and no two of them calls of one CPU
abbrev pub AreOpen : List Event → ℕ → List Line → List Line → Type 0
AreOpen events place lines [] = Unit {0}
AreOpen events place lines (line ∷ more) =
    IsOpen events place lines line × (count_of (cpu_named line) more ≡ 0) × AreOpen events place lines more

-- from the old state the specification gives the lines' replies, one after the other, and comes to the new one
pub record Gives (events : List Event) (old : State) (lines : List Line) (new : State) : Type 0 where
  pub entries : List JournalEntry
  pub claimed : AreEntriesOf events lines entries
  pub run : IsRun old entries new

-- one of the lines before the last may as well come behind it: with the same replies, and to the same state
pub record IsMovable (events : List Event) (old : State) (before : List Line) (last : Line) (new : State) : Type 0 where
  pub front : List Line
  pub line : Line
  pub back : List Line
  pub whole : before ≡ front ++ line ∷ back
  pub moved : Gives events old (front ++ (back ++ last ∷ line ∷ [])) new

-- Some open calls and then the last one are given behind the lines, and lead to the new state. None of them may as well come last.
pub record IsLook (history : History) (place : ℕ) (lines : List Line) (old : State) (before : List Line) (last : Line) (new : State) : Type 0 where
  pub are_open : AreOpen history.events place lines (before ++ last ∷ [])
  pub given : Gives history.events old (before ++ last ∷ []) new
  pub settled : ¬ IsMovable history.events old before last new

-- wherever open calls lead, and then come the one and the other line, these may as well come the other way round
abbrev pub Passes : History → ℕ → List Line → State → Line → Line → Type 0
Passes history place lines state line other =
    (before : List Line) (old new : State) → AreOpen history.events place lines (before ++ line ∷ other ∷ [])
    → Gives history.events state before old → Gives history.events old (line ∷ other ∷ []) new → Gives history.events old (other ∷ line ∷ []) new

-- ---- all orders

-- each of the orders leads nowhere
abbrev pub LeadNowhere : History → List (List Line) → Type 0
LeadNowhere history orders = (i : ℕ) (lines : List Line) → slice_get orders i ≡ Some lines → LeadsNowhere history lines

-- each of the orders is kept at the place
abbrev pub AllKept : History → ℕ → List (List Line) → Type 0
AllKept history place orders =
    (i : ℕ) (lines : List Line) → slice_get orders i ≡ Some lines → (state : State) × IsKept history place lines state

-- Each of the orders is kept at the place, and where all of them lead nowhere, each order does.
pub record AreKept (history : History) (place : ℕ) (orders : List (List Line)) : Type 0 where
  pub all : AllKept history place orders
  pub cover : LeadNowhere history orders → LeadsNowhere history []

-- one of the orders is of the same calls as the lines, and leads to the state
abbrev pub HasAlike : History → List (List Line) → List Line → State → Type 0
HasAlike history orders lines state =
    (i : ℕ) × (other : List Line) × (slice_get orders i ≡ Some other) × Reaches history other state
    × ((cpu : ℕ) → count_of cpu other ≡ count_of cpu lines)

-- What becomes of a kept order at the call's return: it has the call and is kept, or is kept with the call behind it, at once and behind
-- open calls that can't as well come later; each up to an order of the same calls to the same state.
pub record IsContinued (history : History) (place cpu number : ℕ) (lines : List Line) (state : State) (next : List (List Line)) : Type 0 where
  pub stays : number < count_of cpu lines → HasAlike history next lines state
  pub grows : (before : List Line) (new : State) → IsLook history place lines state before (Keep cpu number) new
      → HasAlike history next (lines ++ (before ++ Keep cpu number ∷ [])) new

-- so of each
abbrev pub AreContinued : History → ℕ → ℕ → ℕ → List (List Line) → List (List Line) → Type 0
AreContinued history place cpu number orders next =
    (i : ℕ) (lines : List Line) (state : State) → slice_get orders i ≡ Some lines → IsKept history place lines state
    → IsContinued history place cpu number lines state next
