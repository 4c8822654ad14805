-- What comes next for a CPU of a world.
use Rattle.std.specs.Prelude.{◌≡◌, ℕ, ◌<◌, ◌==◌, if◌then◌else◌, Bool, List, [], ◌∷◌, ◌++◌, Option, Some, None, Result}
use Rattle.std.specs.List.{list_any}
use Rattle.rmm_spec.specs.HistoryText.{Config}
use Rattle.rmm_spec.specs.declared.command.Command.{Command}
use Rattle.rmm_spec.specs.Call.{call_of}
use Rattle.rmm_spec.specs.Lookup.{any_below}
use Rattle.rmm_spec.specs.Cell.{put}
use Rattle.rmm_spec.specs.Shape.{CpuPlace}
use Rattle.rmm_spec.specs.Local.{HeldCell, put_all}
use Rattle.rmm_spec.specs.declared.accepted.Accepted.{Accepted}
use Rattle.rmm_spec.specs.declared.refusal.Refusal.{Refusal}
use Rattle.rmm_spec.specs.World.{World, Phase, Between, Deciding, Decided, GivenUp, Stopped, IsDeciding, hold_of, held_cells, without_granule, phase_learnt}
use Rattle.rmm_spec.specs.Waits.{Report, Did, Blocked, Idle, awaited}
use Rattle.rmm_spec.specs.Waits as turn
use Rattle.command_core.specs.declared.next.Next.{Next}
use Rattle.command_core.specs.declared.next.Next.TheVariants.{Take, Free, Ready}
use Rattle.command_core.specs.Changed.{given_of, hold_changed}
use Rattle.command_core.specs.Decided.{answer_on}
use Rattle.command_core.specs.Foreseen.{change_of}
use Rattle.command_core.specs.Settled.{is_settled}
use Rattle.command_core.specs.Next as plan
use Rattle.command_core.specs.Plan.{IsPlanned, is_ready}

-- what a CPU with an open call does next: the plan's one value on the cells that it holds, which is right to do
pub record IsNext (w : World) (cpu : ℕ) (next : Next) : Type 0 where
  pub deciding : IsDeciding w cpu
  pub is_next : next ≡ plan.next w.config (call_of deciding.command) (w.place cpu) deciding.learnt (held_cells w cpu)
  pub planned : IsPlanned w.config deciding.command (w.place cpu) deciding.learnt (held_cells w cpu) next
  pub settled : is_settled w.config (call_of deciding.command) (w.place cpu) (held_cells w cpu) ≡ is_ready next

-- ---- what comes next is done

abbrev pub with_taken : World → ℕ → ℕ → World
with_taken w cpu granule = record w { taken = put w.taken cpu (w.taken cpu ++ granule ∷ []) }

abbrev pub with_freed : World → ℕ → ℕ → Option ℕ → World
with_freed w cpu granule learnt = record w {
  taken = put w.taken cpu (without_granule granule (w.taken cpu));
  phase = put w.phase cpu (phase_learnt learnt (w.phase cpu));
}

-- the call is committed with the answer's reply, and its change is made of what is held
abbrev pub with_answer : World → ℕ → ℕ → Command → Result Accepted Refusal → World
with_answer w cpu number command answer =
    let held = hold_changed (hold_of w cpu) (change_of answer) in record w {
      cells = put_all w.cells held.cells;
      side = held.side;
      place = put w.place cpu held.place;
      phase = put w.phase cpu (Decided number command (given_of answer));
      journal = w.journal ++ record { cpu = cpu; number = number; command = command; given = given_of answer } ∷ [];
    }

-- an open call is answered on what is held
abbrev pub committed_in : World → ℕ → Phase → World
committed_in w cpu (Deciding number command learnt) =
    with_answer w cpu number command (answer_on w.config cpu command (hold_of w cpu))
committed_in w cpu _ = w

unfoldable pub with_committed : World → ℕ → World
with_committed w cpu = committed_in w cpu (w.phase cpu)

-- The lock that comes next is taken, or waited for; the one that is to be freed is, with what is learnt; and who is ready
-- commits the answer on what is held.
abbrev pub DoesNext : World → ℕ → Next → Report → World → Type 0
DoesNext old cpu (Take granule) (Did kind) new = (kind ≡ turn.Take) × (new ≡ with_taken old cpu granule)
DoesNext old cpu (Take granule) (Blocked other) new = (other ≡ granule) × (new ≡ old)
DoesNext old cpu (Free granule learnt) (Did kind) new = (kind ≡ turn.Free) × (new ≡ with_freed old cpu granule learnt)
DoesNext old cpu Ready (Did kind) new = (kind ≡ turn.Commit) × (new ≡ with_committed old cpu)
DoesNext old cpu _ _ new = ⊥

-- A turn does what comes next.
pub record DoesPlanned (old : World) (cpu : ℕ) (report : Report) (new : World) : Type 0 where
  pub next : Next
  pub is_next : IsNext old cpu next
  pub does : DoesNext old cpu next report new

-- ---- what a go comes to

-- what the plan of an open call says next, on what is held
abbrev pub next_in : Config → CpuPlace → List HeldCell → Phase → Option Next
next_in config place held (Deciding number command learnt) = Some (plan.next config (call_of command) place learnt held)
next_in config place held _ = None

-- there is none where no call is open, or it is committed
unfoldable pub next_for : World → ℕ → Option Next
next_for w cpu = next_in w.config (w.place cpu) (held_cells w cpu) (w.phase cpu)

-- each CPU that waits has a plan that takes that lock next
pub record AreNext (w : World) (waits : ℕ → Option ℕ) : Type 0 where
  pub each : (cpu granule : ℕ) → waits cpu ≡ Some granule → next_for w cpu ≡ Some (Take granule)

-- whether a lock is held
unfoldable pub is_taken : World → ℕ → Bool
is_taken w granule = any_below w.config.cpus (λ cpu. list_any (λ lock. lock == granule) (w.taken cpu))

abbrev pub next_report : World → Next → Report
next_report w (Take granule) = if is_taken w granule then Blocked granule else Did turn.Take
next_report w (Free granule learnt) = Did turn.Free
next_report w Ready = Did turn.Commit

abbrev pub call_report : List Command → Report
call_report [] = Idle
call_report (command ∷ others) = Did turn.Call

abbrev pub return_report : List ℕ → Report
return_report [] = Did turn.Return
return_report (lock ∷ others) = Did turn.Free

abbrev pub report_in : World → ℕ → Phase → Report
report_in w cpu (Between number) = call_report (w.program cpu)
report_in w cpu (Deciding number command learnt) =
    next_report w (plan.next w.config (call_of command) (w.place cpu) learnt (held_cells w cpu))
report_in w cpu (Decided number command given) = return_report (w.taken cpu)
report_in w cpu GivenUp = Idle
report_in w cpu Stopped = Idle

-- What a CPU's go reports, one value, wherever memory isn't refused: it calls where a command is left, does what its plan says
-- next until it commits, frees what it holds then, and returns.
unfoldable pub go_report : World → ℕ → Report
go_report w cpu = report_in w cpu (w.phase cpu)

-- the lock at which a CPU's go would be blocked
abbrev pub blocking : World → ℕ → Option ℕ
blocking w cpu = awaited (go_report w cpu)

-- the report is of no move
abbrev pub IsNoMove : Report → Type 0
IsNoMove (Did kind) = ⊥
IsNoMove (Blocked granule) = Unit {0}
IsNoMove Idle = Unit {0}

-- no CPU's go would make a move
abbrev pub StandsStill : World → Type 0
StandsStill w = (cpu : ℕ) → cpu < w.config.cpus → IsNoMove (go_report w cpu)
