-- The world: CPUs that carry out their programs over shared granules, each granule under a lock of its own, one move at a
-- time and in any order. What it records of a run is a history, and its journal is the certificate of that history.
-- What a monitor's threads do is taken for such a list of moves. This project's own.
use Rattle.std.specs.Prelude.{◌≡◌, ℕ, ◌+◌, ◌<◌, Bool, false, not, ◌&&◌, ◌==◌, if◌then◌else◌, IsTrue, List, [], ◌∷◌, ◌++◌, map, Contains, Option, Some, None}
use Rattle.std.specs.List.{filter, list_any}
use Rattle.rmm_spec.specs.declared.call.Call.TheVariants.{RecEnter}
use Rattle.rmm_spec.specs.declared.command.Command.{Command}
use Rattle.rmm_spec.specs.declared.event.Event.{Event}
use Rattle.rmm_spec.specs.declared.event.Event.TheVariants.{Called, Returned}
use Rattle.rmm_spec.specs.declared.line.Line.{Line}
use Rattle.rmm_spec.specs.declared.line.Line.TheVariants.{Keep, Unfinished}
use Rattle.rmm_spec.specs.declared.reply.Reply.{Reply}
use Rattle.rmm_spec.specs.HistoryText.{Config, History}
use Rattle.rmm_spec.specs.Call.{call_of}
use Rattle.rmm_spec.specs.State.{RecRecord}
use Rattle.rmm_spec.specs.Lookup.{is_granule}
use Rattle.rmm_spec.specs.Linearization.{IsLinearization}
use Rattle.rmm_spec.specs.Cell.{Cell, Undelegated, put, recs_of}
use Rattle.rmm_spec.specs.Flat.{flat_state}
use Rattle.rmm_spec.specs.Shape.{Side, CpuPlace, Outside, IsWellShaped}
use Rattle.rmm_spec.specs.Local.{HeldCell, Hold, put_all, LocalStep}

-- how far a CPU has come with its calls, which it numbers from 0
pub data Phase : Type 0 where
  -- no call is open, and the next has this number
  Between : ℕ → Phase
  -- the call is open and not committed; with the realm that an Enter learnt when it last freed its REC
  Deciding : ℕ → Command → Option ℕ → Phase
  -- the call is committed with this reply
  Decided : ℕ → Command → Reply → Phase
  -- it gave its open call up, or was stopped where it stood
  GivenUp : Phase
  Stopped : Phase

-- one commit: whose call it is, its number, what was called and what the reply is
pub record Commitment : Type 0 where
  pub cpu : ℕ
  pub number : ℕ
  pub command : Command
  pub given : Reply

-- Cells by address, and of each CPU the granules whose locks it holds, in the order in which it took them, its place, its
-- phase and what is left of its program. The journal has all commits, and events all calls and returns, in their order.
pub record World : Type 0 where
  pub config : Config
  pub cells : ℕ → Cell
  pub side : Side
  pub taken : ℕ → List ℕ
  pub place : ℕ → CpuPlace
  pub phase : ℕ → Phase
  pub program : ℕ → List Command
  pub journal : List Commitment
  pub events : List Event

-- nothing is delegated, nothing is held, and each CPU has its whole program before it
unfoldable pub opening_world : Config → (ℕ → List Command) → World
opening_world config programs = record {
  config = config;
  cells = λ _. Undelegated;
  side = record { vmids = λ _. None; rec_counts = λ _. 0 };
  taken = λ _. [];
  place = λ _. Outside;
  phase = λ _. Between 0;
  program = programs;
  journal = [];
  events = [];
}

-- the cells that a CPU holds, as they are now
abbrev pub held_cells : World → ℕ → List HeldCell
held_cells w cpu = map (λ granule. record { granule = granule; cell = w.cells granule }) (w.taken cpu)

abbrev pub hold_of : World → ℕ → Hold
hold_of w cpu = record { cells = held_cells w cpu; side = w.side; place = w.place cpu }

-- ---- the seven moves

pub data Move : Type 0 where
  Call : (cpu : ℕ) → Move
  Take : (cpu granule : ℕ) → Move
  Free : (cpu granule : ℕ) (learnt : Option ℕ) → Move
  Commit : (cpu : ℕ) (given : Reply) (held : Hold) → Move
  GiveUp : (cpu : ℕ) → Move
  Return : (cpu : ℕ) → Move
  Stop : (cpu : ℕ) → Move

abbrev pub mover : Move → ℕ
mover (Call cpu) = cpu
mover (Take cpu granule) = cpu
mover (Free cpu granule learnt) = cpu
mover (Commit cpu given held) = cpu
mover (GiveUp cpu) = cpu
mover (Return cpu) = cpu
mover (Stop cpu) = cpu

-- a CPU without an open call makes the next one of its program
pub record Calls (old : World) (cpu : ℕ) (new : World) : Type 0 where
  pub number : ℕ
  pub command : Command
  pub rest : List Command
  pub is_between : old.phase cpu ≡ Between number
  pub is_next : old.program cpu ≡ command ∷ rest
  pub is_new : new ≡ record old {
    phase = put old.phase cpu (Deciding number command None);
    program = put old.program cpu rest;
    events = old.events ++ Called cpu number command ∷ [];
  }

-- the CPU has an open call that isn't committed
pub record IsDeciding (w : World) (cpu : ℕ) : Type 0 where
  pub number : ℕ
  pub command : Command
  pub learnt : Option ℕ
  pub is_deciding : w.phase cpu ≡ Deciding number command learnt

-- a CPU between its call and its commit takes the lock of a granule, which nobody holds
pub record Takes (old : World) (cpu granule : ℕ) (new : World) : Type 0 where
  pub deciding : IsDeciding old cpu
  pub is_lock : IsTrue (is_granule old.config.granules granule)
  pub is_free : (other : ℕ) → Contains (old.taken other) granule → ⊥
  pub is_new : new ≡ record old { taken = put old.taken cpu (old.taken cpu ++ granule ∷ []) }

abbrev pub without_granule : ℕ → List ℕ → List ℕ
without_granule granule held = filter (λ other. not (other == granule)) held

-- an Enter learns whose REC it frees: a granule, and not the REC itself
pub record Learns (w : World) (command : Command) (granule rd : ℕ) : Type 0 where
  pub rec : RecRecord
  pub is_enter : call_of command ≡ RecEnter granule
  pub is_rec : recs_of w.cells granule ≡ Some rec
  pub is_owner : rec.owner ≡ rd
  pub is_lock : IsTrue (is_granule w.config.granules rd)
  pub is_other : (rd == granule) ≡ false

-- what may be learnt as a granule is freed: nothing, or in a call that isn't committed what an Enter learns
abbrev pub MayLearn : World → Phase → ℕ → Option ℕ → Type 0
MayLearn w (Deciding number command learnt) granule None = Unit {0}
MayLearn w (Deciding number command learnt) granule (Some rd) = Learns w command granule rd
MayLearn w _ granule None = Unit {0}
MayLearn w _ granule (Some rd) = ⊥

-- what is learnt takes the place of what was
abbrev pub phase_learnt : Option ℕ → Phase → Phase
phase_learnt learnt (Deciding number command earlier) = Deciding number command learnt
phase_learnt learnt (Decided number command given) = Decided number command given
phase_learnt learnt (Between number) = Between number
phase_learnt learnt GivenUp = GivenUp
phase_learnt learnt Stopped = Stopped

-- A granule that a CPU holds is freed, however far the CPU has come: what one that was stopped holds may come free, or never.
pub record Frees (old : World) (cpu granule : ℕ) (learnt : Option ℕ) (new : World) : Type 0 where
  pub is_held : Contains (old.taken cpu) granule
  pub may_learn : MayLearn old (old.phase cpu) granule learnt
  pub is_new : new ≡ record old {
    taken = put old.taken cpu (without_granule granule (old.taken cpu));
    phase = put old.phase cpu (phase_learnt learnt (old.phase cpu));
  }

-- A CPU makes a local step on the cells that it holds, and the journal gains its entry, both in one move.
pub record Commits (old : World) (cpu : ℕ) (given : Reply) (held : Hold) (new : World) : Type 0 where
  pub deciding : IsDeciding old cpu
  pub step : LocalStep old.config cpu deciding.command given (hold_of old cpu) held
  pub is_new : new ≡ record old {
    cells = put_all old.cells held.cells;
    side = held.side;
    place = put old.place cpu held.place;
    phase = put old.phase cpu (Decided deciding.number deciding.command given);
    journal = old.journal ++ record { cpu = cpu; number = deciding.number; command = deciding.command; given = given } ∷ [];
  }

-- a CPU between its call and its commit frees all that it holds and ends; its call stays open
pub record GivesUp (old : World) (cpu : ℕ) (new : World) : Type 0 where
  pub deciding : IsDeciding old cpu
  pub is_new : new ≡ record old { taken = put old.taken cpu []; phase = put old.phase cpu GivenUp }

-- a CPU that has committed returns the reply, whatever it still holds
pub record Returns (old : World) (cpu : ℕ) (new : World) : Type 0 where
  pub number : ℕ
  pub command : Command
  pub given : Reply
  pub is_decided : old.phase cpu ≡ Decided number command given
  pub is_new : new ≡ record old {
    phase = put old.phase cpu (Between (number + 1));
    events = old.events ++ Returned cpu number given ∷ [];
  }

-- the CPU has not ended
abbrev pub IsGoing : Phase → Type 0
IsGoing (Between number) = Unit {0}
IsGoing (Deciding number command learnt) = Unit {0}
IsGoing (Decided number command given) = Unit {0}
IsGoing GivenUp = ⊥
IsGoing Stopped = ⊥

-- a CPU ends where it stands, and keeps its locks
pub record Stops (old : World) (cpu : ℕ) (new : World) : Type 0 where
  pub is_going : IsGoing (old.phase cpu)
  pub is_new : new ≡ record old { phase = put old.phase cpu Stopped }

abbrev pub Moves : World → Move → World → Type 0
Moves old (Call cpu) new = Calls old cpu new
Moves old (Take cpu granule) new = Takes old cpu granule new
Moves old (Free cpu granule learnt) new = Frees old cpu granule learnt new
Moves old (Commit cpu given held) new = Commits old cpu given held new
Moves old (GiveUp cpu) new = GivesUp old cpu new
Moves old (Return cpu) new = Returns old cpu new
Moves old (Stop cpu) new = Stops old cpu new

-- one of the machine's CPUs makes the move
pub record Happens (old : World) (move : Move) (new : World) : Type 0 where
  pub is_cpu : mover move < old.config.cpus
  pub moves : Moves old move new

-- from old, these moves in order lead to last
abbrev pub HappenAll : World → List Move → World → Type 0
HappenAll old [] last = last ≡ old
HappenAll old (move ∷ moves) last = (next : World) × Happens old move next × HappenAll next moves last

-- no two CPUs hold one lock
abbrev pub HasOneHolder : World → Type 0
HasOneHolder w = (cpu other granule : ℕ) → Contains (w.taken cpu) granule → Contains (w.taken other) granule → cpu ≡ other

-- ---- certified

abbrev pub history_of : World → History
history_of w = record { config = w.config; events = w.events }

-- whether the event is the return of the call
abbrev pub is_return_of : ℕ → ℕ → Event → Bool
is_return_of cpu number (Called other count command) = false
is_return_of cpu number (Returned other count given) = other == cpu && count == number

-- a commit as a line: kept where its return is recorded, else unfinished with its reply
abbrev pub line_for : List Event → Commitment → Line
line_for events c = if list_any (is_return_of c.cpu c.number) events then Keep c.cpu c.number else Unfinished c.cpu c.number c.given

-- the journal written as a certificate
abbrev pub certificate_of : World → List Line
certificate_of w = map (line_for w.events) w.journal

-- The journal, written as a certificate, is a linearization of the history, and its run leads to the cells as they are.
pub record IsCertified (w : World) : Type 0 where
  pub linearization : IsLinearization (history_of w) (certificate_of w)
  pub is_flat : linearization.last ≡ flat_state w.config w.cells

-- the world's own cells, side table and places
abbrev pub IsShapedWorld : World → Type 0
IsShapedWorld w = IsWellShaped w.config w.side w.place w.cells
