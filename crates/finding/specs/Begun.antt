-- Orders that are begun, by what is held of them: how many calls of each CPU stand there, and the state behind them.
use Rattle.std.specs.Prelude.{◌≡◌, ℕ, ◌<◌, Bool, true, false, List, [], ◌∷◌, ◌++◌, slice_index, Option, Some, None, IsTrue}
use Rattle.std.specs.List.{All}
use Rattle.rmm_spec.specs.declared.line.Line.{Line}
use Rattle.rmm_spec.specs.declared.reply.Reply.{Reply}
use Rattle.rmm_spec.specs.HistoryText.{History}
use Rattle.rmm_spec.specs.Linearization.{IsOfItsKind, IsReturned, cpu_named, number_named}
use Rattle.rmm_spec.specs.State.{State}
use Rattle.undo_log.specs.Patches.{IsWhole, Standing, patched, standing_of, state_at}
use Rattle.spec_machine.specs.View.{state_of}
use Rattle.verdict_laws.specs.Order.{LeadsNowhere, Reaches, ReturnBehind}
use Rattle.finding.specs.Choice.{IsNextCall, rank_of}
use Rattle.finding.specs.Counts.{AreCounts}
use Rattle.finding.specs.Front.{IsFront}
use Rattle.finding.specs.Tried.{TriedIn}
use Rattle.verdict_laws.specs.Forward.{IsKept, Passes}
use Rattle.verdict_laws.specs.Unread.{ReadsNothing}
use Rattle.finding.specs.declared.begun.Begun.{Begun}
use Rattle.finding.specs.declared.choice.Choice.{Choice}
use Rattle.finding.specs.declared.next_line.NextLine.{NextLine}
use Rattle.finding.specs.declared.next_line.NextLine.TheVariants as next_line
use Rattle.finding.specs.declared.front.Front.{Front}
use Rattle.finding.specs.declared.round.Round.{Round}
use Rattle.finding.specs.declared.shelved.Orders.{Orders}
use Rattle.finding.specs.declared.shelved.Shelved.{Shelved}
use Rattle.finding.specs.declared.left.Left.{Left}

-- so many calls of each CPU and the state are those of an order of these lines
pub record HoldsOf (history : History) (given : List ℕ) (state : State) (lines : List Line) : Type 0 where
  pub reached : Reaches history lines state
  pub counts : AreCounts given lines

-- the front and the state are those of some order
pub record IsBegunAt (history : History) (at : Front) (state : State) : Type 0 where
  pub front : IsFront history at
  pub lines : List Line
  pub holds : HoldsOf history at.counts state lines

-- each order of which they are leads nowhere
pub record IsLostAt (history : History) (counts : List ℕ) (state : State) : Type 0 where
  pub nowhere : (lines : List Line) → HoldsOf history counts state lines → LeadsNowhere history lines

-- each open call returned behind the place where this one was made
abbrev pub IsSoonAt : History → List ℕ → State → Choice → Type 0
IsSoonAt history counts state choice =
    (lines : List Line) → HoldsOf history counts state lines → ReturnBehind history.events lines choice.places.called

-- ---- an order at hand

abbrev pub Holds : History → Begun → List Line → Type 0
Holds history begun lines = HoldsOf history begun.front.counts (state_of begun.machine) lines

abbrev pub IsBegun : History → Begun → Type 0
IsBegun history begun = IsBegunAt history begun.front (state_of begun.machine)

abbrev pub IsLost : History → Begun → Type 0
IsLost history begun = IsLostAt history begun.front.counts (state_of begun.machine)

abbrev pub IsSoon : History → Begun → Choice → Type 0
IsSoon history begun choice = IsSoonAt history begun.front.counts (state_of begun.machine) choice

-- where the patches of orders that are kept lead from
abbrev pub base_of : Begun → Standing
base_of begun = patched begun.undo (standing_of begun.machine)

-- The new one is held of the old one's orders with the line behind them. Where the old one's lead nowhere, its own do, and where its own do,
-- the line leads nowhere.
pub record IsGrown (history : History) (line : Line) (old new : Begun) : Type 0 where
  pub begun : IsBegun history new
  pub behind : (lines : List Line) → Holds history old lines → IsLost history new → LeadsNowhere history (lines ++ line ∷ [])
  pub before : IsLost history old → IsLost history new

-- the line can't stand behind the orders, which stay
pub record Stays (history : History) (line : Line) (old new : Begun) : Type 0 where
  pub begun : IsBegun history new
  pub refused : (lines : List Line) → Holds history old lines → LeadsNowhere history (lines ++ line ∷ [])

-- ---- what is tried behind an order

-- Of the calls that may come next at the first return only those of the group's CPUs need be tried: the call that returns is one, and each
-- other open call may as well come behind any of the group.
pub record IsGroup (history : History) (begun : Begun) (first : Choice) (group : ℕ → Bool) : Type 0 where
  pub has_first : group first.cpu ≡ true
  pub passes : (lines : List Line) (line other : Line) → IsKept history (rank_of first) lines (state_of begun.machine)
      → Holds history begun lines → group (cpu_named line) ≡ false → group (cpu_named other) ≡ true
      → Passes history (rank_of first) lines (state_of begun.machine) line other

-- where each line of the group leads nowhere that isn't left, each leads nowhere that isn't left here
abbrev pub GoesBehind : History → Begun → (ℕ → Bool) → Left → Left → Type 0
GoesBehind history begun group old new =
    (lines : List Line) → Holds history begun lines → TriedIn history group lines old.from old.above → TriedIn history group lines new.from new.above

-- the line may stand behind the order, and where it leads nowhere this is left
pub record MayStand (history : History) (begun : Begun) (group : ℕ → Bool) (old : Left) (choice : Choice) (line : Line) (new : Left) : Type 0 where
  pub next : IsNextCall history begun.front.counts 0 choice
  pub of_cpu : cpu_named line ≡ choice.cpu
  pub numbered : number_named line ≡ choice.number
  pub kind : IsOfItsKind history.events line
  pub soon : IsSoon history begun choice
  pub resumes : (lines : List Line) → Holds history begun lines → LeadsNowhere history (lines ++ line ∷ [])
      → TriedIn history group lines old.from old.above → TriedIn history group lines new.from new.above

-- what is left behind lines, or nothing is
abbrev pub LeavesBehind : History → Begun → (ℕ → Bool) → Left → Option Left → Type 0
LeavesBehind history begun group old None =
    (lines : List Line) → Holds history begun lines → TriedIn history group lines old.from old.above → LeadsNowhere history lines
LeavesBehind history begun group old (Some new) = GoesBehind history begun group old new

abbrev pub IsNextLine : History → Begun → (ℕ → Bool) → Left → NextLine → Type 0
IsNextLine history begun group left next_line.None = LeavesBehind history begun group left None
IsNextLine history begun group left (next_line.Passed new) = GoesBehind history begun group left new
IsNextLine history begun group left (next_line.Line choice line new) = MayStand history begun group left choice line new

-- ---- orders that are kept

-- the state behind one, where its patch leads from the base
abbrev pub state_from : Standing → Shelved → State
state_from base order = state_at (patched order.patch base)

pub record IsShelved (history : History) (base : Standing) (order : Shelved) : Type 0 where
  pub whole : IsWhole (patched order.patch base)
  pub begun : IsBegunAt history order.front (state_from base order)

abbrev pub IsShelvedLost : History → Standing → Shelved → Type 0
IsShelvedLost history base order = IsLostAt history order.front.counts (state_from base order)

abbrev pub AllShelved : History → Standing → List Shelved → Type 0
AllShelved history base orders = All (IsShelved history base) orders

abbrev pub AllLost : History → Standing → List Shelved → Type 0
AllLost history base orders = All (IsShelvedLost history base) orders

-- each call that returned before the place stands in an order of so many calls of each CPU
abbrev pub HasReturned : History → List ℕ → ℕ → Type 0
HasReturned history counts place =
    (cpu number at : ℕ) (given : Reply) → IsReturned history.events at cpu number given → at < place → number < slice_index counts cpu

-- it stands in each of them
abbrev pub AllReturned : History → List Shelved → ℕ → Type 0
AllReturned history orders place = All (λ (order : Shelved). HasReturned history order.front.counts place) orders

-- no order was left out of them, and all lead nowhere
pub record OrdersLost (history : History) (orders : Orders) : Type 0 where
  pub complete : IsTrue orders.complete
  pub begun : AllLost history (standing_of orders.machine) orders.begun.items

-- each is an order, and where none was left out and all lead nowhere, the fact holds
pub record AreOrders (history : History) (orders : Orders) (covered : Type 0) : Type 0 where
  pub shelved : AllShelved history (standing_of orders.machine) orders.begun.items
  pub covers : OrdersLost history orders → covered

-- orders may differ in measurements only where none is read
pub record IsRound (history : History) (base : Standing) (round : Round) : Type 0 where
  pub whole : IsWhole base
  pub unread : IsTrue round.scope.unread → ReadsNothing history.events
  pub lacking : AllShelved history base round.lacking.items
  pub next : AllShelved history base round.next.items

-- no order was left out of the round, and all of them lead nowhere
pub record RoundLost (history : History) (base : Standing) (round : Round) : Type 0 where
  pub complete : IsTrue round.complete
  pub lacking : AllLost history base round.lacking.items
  pub next : AllLost history base round.next.items

-- the new round's orders lead nowhere only where the old one's do
abbrev pub Covers : History → Standing → Round → Round → Type 0
Covers history base old new = RoundLost history base new → RoundLost history base old
