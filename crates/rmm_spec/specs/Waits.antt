-- Turns: what a CPU does when it is told to go on, to give up or to stop, and what it reports. A CPU whose go is blocked
-- waits for the CPU that holds the lock; whether such waits can come back to their start is what the laws are on.
-- This project's own.
use Rattle.std.specs.Prelude.{◌≡◌, ℕ, ◌<◌, ◌⊎◌, List, [], ◌∷◌, ◌++◌, Contains, Option, Some, None}
use Rattle.rmm_spec.specs.declared.turn.Will.{Will}
use Rattle.rmm_spec.specs.declared.turn.Will.TheVariants as told
use Rattle.rmm_spec.specs.Call.{call_of}
use Rattle.rmm_spec.specs.Cell.{put}
use Rattle.rmm_spec.specs.World.{World, Phase, Between, Deciding, Decided, GivenUp, Stopped, Move, mover, Happens, IsDeciding, IsGoing, held_cells}
use Rattle.rmm_spec.specs.World as world
use Rattle.rmm_spec.specs.Locks.{needs, IsRisingTake}

-- ---- waits

-- the CPU, with an open call, may wait for the granule
pub record IsRising (w : World) (cpu granule : ℕ) : Type 0 where
  pub deciding : IsDeciding w cpu
  pub rising : IsRisingTake w.config (needs (w.place cpu) deciding.learnt (call_of deciding.command)) (held_cells w cpu) granule

-- the CPU is at a rising take of the granule, which another holds
pub record WaitsAt (w : World) (cpu granule other : ℕ) : Type 0 where
  pub rising : IsRising w cpu granule
  pub is_held : Contains (w.taken other) granule

-- the one CPU waits for the other
abbrev pub WaitsFor : World → ℕ → ℕ → Type 0
WaitsFor w cpu other = (granule : ℕ) × WaitsAt w cpu granule other

-- a chain from the first CPU over others to the last, each waiting for the next
abbrev pub IsChain : (ℕ → ℕ → Type 0) → ℕ → List ℕ → ℕ → Type 0
IsChain waits first [] last = waits first last
IsChain waits first (next ∷ others) last = waits first next × IsChain waits next others last

-- no chain of waits comes back to its start
abbrev pub HasNoCircle : World → Type 0
HasNoCircle w = (cpu : ℕ) (others : List ℕ) → IsChain (WaitsFor w) cpu others cpu → ⊥

-- ---- turns

-- the seven kinds of move
pub data Kind : Type 0 where
  Call : Kind
  Take : Kind
  Free : Kind
  Commit : Kind
  GiveUp : Kind
  Return : Kind
  Stop : Kind

abbrev pub kind_of : Move → Kind
kind_of (world.Call cpu) = Call
kind_of (world.Take cpu granule) = Take
kind_of (world.Free cpu granule learnt) = Free
kind_of (world.Commit cpu given held) = Commit
kind_of (world.GiveUp cpu) = GiveUp
kind_of (world.Return cpu) = Return
kind_of (world.Stop cpu) = Stop

-- what a turn reports: the move that it made, the granule that another CPU holds, or that there is nothing to do
pub data Report : Type 0 where
  Did : Kind → Report
  Blocked : ℕ → Report
  Idle : Report

-- the granule is the last that the CPU took
pub record IsLastTaken (w : World) (cpu granule : ℕ) : Type 0 where
  pub earlier : List ℕ
  pub is_last : w.taken cpu ≡ earlier ++ granule ∷ []

-- what a CPU frees as it goes: what its plan gives back before the commit, and after it the last taken first
abbrev pub MayFree : World → ℕ → ℕ → Phase → Type 0
MayFree w cpu granule (Deciding number command learnt) = Unit {0}
MayFree w cpu granule (Decided number command given) = IsLastTaken w cpu granule
MayFree w cpu granule _ = ⊥

-- The moves that each will leads to. A go takes no lock but by a rising take, frees in an open call alone, and returns once
-- nothing is held.
abbrev pub IsWilled : World → Will → Move → Type 0
IsWilled w told.Go (world.Take cpu granule) = IsRising w cpu granule
IsWilled w told.Go (world.Free cpu granule learnt) = MayFree w cpu granule (w.phase cpu)
IsWilled w told.Go (world.Return cpu) = w.taken cpu ≡ []
IsWilled w told.Go (world.GiveUp cpu) = ⊥
IsWilled w told.Go (world.Stop cpu) = ⊥
IsWilled w told.Go _ = Unit {0}
IsWilled w told.GiveUp (world.GiveUp cpu) = Unit {0}
IsWilled w told.GiveUp _ = ⊥
IsWilled w told.Stop (world.Stop cpu) = Unit {0}
IsWilled w told.Stop _ = ⊥

-- the turn makes one move, of the kind that it reports
pub record MakesMove (old : World) (cpu : ℕ) (will : Will) (kind : Kind) (new : World) : Type 0 where
  pub move : Move
  pub is_kind : kind_of move ≡ kind
  pub is_mover : mover move ≡ cpu
  pub is_willed : IsWilled old will move
  pub happens : Happens old move new

-- the CPU has returned every call of its program
pub record HasReturnedAll (w : World) (cpu : ℕ) : Type 0 where
  pub number : ℕ
  pub is_between : w.phase cpu ≡ Between number
  pub none_left : w.program cpu ≡ []

-- where each will finds nothing to do
abbrev pub IsIdle : World → ℕ → Will → Type 0
IsIdle w cpu told.Go = (IsGoing (w.phase cpu) → ⊥) ⊎ HasReturnedAll w cpu
IsIdle w cpu told.GiveUp = IsDeciding w cpu → ⊥
IsIdle w cpu told.Stop = IsGoing (w.phase cpu) → ⊥

-- a go is blocked where another CPU holds the lock that comes next; nothing changes
pub record IsBlocked (w : World) (cpu granule : ℕ) : Type 0 where
  pub other : ℕ
  pub waits : WaitsAt w cpu granule other

abbrev pub Turns : World → ℕ → Will → Report → World → Type 0
Turns old cpu will (Did kind) new = MakesMove old cpu will kind new
Turns old cpu will Idle new = IsIdle old cpu will × (new ≡ old)
Turns old cpu told.Go (Blocked granule) new = IsBlocked old cpu granule × (new ≡ old)
Turns old cpu told.GiveUp (Blocked granule) new = ⊥
Turns old cpu told.Stop (Blocked granule) new = ⊥

pub record Turn : Type 0 where
  pub cpu : ℕ
  pub will : Will
  pub report : Report

-- from old, these turns in order lead to last
abbrev pub TurnAll : World → List Turn → World → Type 0
TurnAll old [] last = last ≡ old
TurnAll old (turn ∷ turns) last = (next : World) × Turns old turn.cpu turn.will turn.report next × TurnAll next turns last

-- what a report leaves a CPU waiting for
abbrev pub awaited : Report → Option ℕ
awaited (Blocked granule) = Some granule
awaited (Did kind) = None
awaited Idle = None

-- what each CPU waits for after some turns: the granule that its last turn reported, where it was blocked
abbrev pub waits_after : (ℕ → Option ℕ) → List Turn → ℕ → Option ℕ
waits_after waits [] = waits
waits_after waits (turn ∷ turns) = waits_after (put waits turn.cpu (awaited turn.report)) turns

-- after these turns each CPU whose last turn was blocked still waits for whoever holds that lock
abbrev pub KeepsWaiting : List Turn → World → Type 0
KeepsWaiting turns w =
    (cpu granule other : ℕ) → waits_after (λ _. None) turns cpu ≡ Some granule → Contains (w.taken other) granule
    → WaitsAt w cpu granule other

-- ---- stuck worlds

-- What a CPU wants is the lock that its go would take next. Which that is, is left to a rule: any at whose rising take the CPU
-- is, or the one that its plan names.

-- each lock that is wanted is so at a rising take
abbrev pub AreRising : World → (ℕ → ℕ → Type 0) → Type 0
AreRising w wants = (cpu granule : ℕ) → wants cpu granule → IsRising w cpu granule

-- the rule by which each CPU wants one lock at most
abbrev pub Wants : (ℕ → Option ℕ) → ℕ → ℕ → Type 0
Wants wanted cpu granule = wanted cpu ≡ Some granule

-- by the rule, the one CPU waits for the other, which holds what it wants
abbrev pub WaitsBy : World → (ℕ → ℕ → Type 0) → ℕ → ℕ → Type 0
WaitsBy w wants cpu other = (granule : ℕ) × wants cpu granule × Contains (w.taken other) granule

-- no CPU's go would make a move: each waits, or has nothing to do
abbrev pub IsStuck : World → (ℕ → ℕ → Type 0) → Type 0
IsStuck w wants = (cpu : ℕ) → cpu < w.config.cpus → ((other : ℕ) × WaitsBy w wants cpu other) ⊎ IsIdle w cpu told.Go

-- from the CPU a chain of waits leads to one that was stopped
pub record LeadsToStopped (w : World) (waits : ℕ → ℕ → Type 0) (cpu : ℕ) : Type 0 where
  pub others : List ℕ
  pub last : ℕ
  pub chain : IsChain waits cpu others last
  pub is_stopped : w.phase last ≡ Stopped

-- Each chain of waits ends at a CPU that was stopped: who is waited for was stopped or waits in turn, and that comes to an
-- end. So where none was stopped, each CPU gave up or has returned all calls of its program.
pub record WaitsBehindStopped (w : World) (wants : ℕ → ℕ → Type 0) : Type 0 where
  pub each : (cpu other : ℕ) → WaitsBy w wants cpu other → LeadsToStopped w (WaitsBy w wants) cpu
  pub next : (cpu other : ℕ) → WaitsBy w wants cpu other → (w.phase other ≡ Stopped) ⊎ LeadsToStopped w (WaitsBy w wants) other
  pub without_stop : ((cpu : ℕ) → w.phase cpu ≡ Stopped → ⊥) → (cpu : ℕ) → cpu < w.config.cpus
      → (w.phase cpu ≡ GivenUp) ⊎ HasReturnedAll w cpu
