-- Why events are no run.
use Rattle.std.specs.Prelude.{⊤, ◌≡◌, ◌≢◌, ℕ, ◌+◌, ◌<◌, ◌≤◌, List, ◌∷◌, ◌++◌, length, Option}
use Rattle.merging.specs.Events.{Moment, Call, Commit, Return}
use Rattle.merging.specs.Table.{Happened}
use Rattle.merging.specs.Run.{Phase, Idle, Called, Committed, Stand, starts, stands_after, IsRun, events_from, lines_from, returns_in, known_front}
use Rattle.merging.specs.declared.fault.MergeFault.{MergeFault}
use Rattle.merging.specs.declared.fault.MergeFault.TheVariants.{Hole, Refused}
use Rattle.merging.specs.declared.fault.Refusal.{Refusal}
use Rattle.merging.specs.declared.fault.Refusal.TheVariants.{NoSuchCpu, OutOfOrder, CallInCall, CommitOutside, CommitTwice, ReturnOutside, ReturnUncommitted, OtherReply, Full}

-- the phase in which a moment is refused so
abbrev pub IsMisfit : Refusal → Phase → Moment → Type 0
IsMisfit CallInCall Called (Call command) = ⊤
IsMisfit CallInCall (Committed committed) (Call command) = ⊤
IsMisfit CommitOutside Idle (Commit given) = ⊤
IsMisfit CommitTwice (Committed committed) (Commit given) = ⊤
IsMisfit ReturnOutside Idle (Return given) = ⊤
IsMisfit ReturnUncommitted Called (Return given) = ⊤
IsMisfit OtherReply (Committed committed) (Return given) = committed ≢ given
IsMisfit refusal phase moment = ⊥

-- the moment's text has no room for one more line, after so many events and so many lines of a certificate
abbrev pub IsFull : ℕ → ℕ → Moment → Type 0
IsFull events lines (Call command) = 1000000 ≤ events + 1
IsFull events lines (Commit given) = 1000000 ≤ lines
IsFull events lines (Return given) = 1000000 ≤ events + 1

-- a moment is refused so where its CPU stands there
abbrev pub Refuses : ℕ → ℕ → ℕ → Stand → Happened → Refusal → Type 0
Refuses cpus events lines stand slot NoSuchCpu = cpus ≤ slot.cpu
Refuses cpus events lines stand slot OutOfOrder = slot.line ≤ stand.line
Refuses cpus events lines stand slot Full = IsFull events lines slot.moment
Refuses cpus events lines stand slot refusal = IsMisfit refusal stand.phase slot.moment

-- Moments are a run, and the next is refused, at its line.
pub record IsRefused (cpus : ℕ) (slots : List Happened) (line : ℕ) (refusal : Refusal) : Type 0 where
  pub before : List Happened
  pub slot : Happened
  pub later : List Happened
  pub are_slots : slots ≡ before ++ slot ∷ later
  pub is_run : IsRun cpus starts before
  pub is_line : line ≡ slot.line
  pub refused : Refuses cpus (length (events_from starts before)) (length (lines_from (λ cpu. returns_in cpu slots) starts before))
      (stands_after starts before slot.cpu) slot refusal

-- of a merge of events that are told of what is known before the first hole, of all where there is none
abbrev pub IsFaultOf : ℕ → List (Option Happened) → List Happened → MergeFault → Type 0
IsFaultOf cpus slots events (Hole stamp) = (stamp ≡ length (known_front slots)) × (stamp < length slots)
IsFaultOf cpus slots events (Refused line refusal) = IsRefused cpus events line refusal
