-- A later step with which the condition of a refused line would hold.
use Rattle.std.specs.Prelude.{◌≡◌, ℕ, zero, suc, ◌+◌, Bool, ◌&&◌, true, false, IsTrue, List, length, slice_get, Option, Some, None, MatchOption}
use Rattle.rmm_spec.specs.declared.command.Command.{Command}
use Rattle.rmm_spec.specs.declared.event.Event.{Event}
use Rattle.rmm_spec.specs.declared.line.Line.{Line}
use Rattle.rmm_spec.specs.declared.reply.Reply.{Reply}
use Rattle.rmm_spec.specs.Linearization.{IsCalled, IsOfItsKind, IsReplyOf, ReturnsBefore, cpu_named, number_named}
use Rattle.rmm_spec.specs.State.{State}
use Rattle.rmm_spec.specs.Step.{Step}
use Rattle.reasons.specs.declared.test.Test.{Test}
use Rattle.reasons.specs.declared.test.Test.TheVariants as test
use Rattle.reasons.specs.Tests.{passes, stands}
use Rattle.reasons.specs.declared.facts.Fact.{Fact}
use Rattle.reasons.specs.declared.facts.Fact.TheVariants as fact
use Rattle.reasons.specs.declared.named_call.NamedCall.{NamedCall}
use Rattle.reasons.specs.declared.since.LateCommit.{LateCommit}
use Rattle.explain.specs.declared.watch.Watch.{Watch}
use Rattle.explain.specs.declared.watch.Watch.TheVariants as watch
use Rattle.explain.specs.Told.{IsLineFor, IsTold, Names}

-- the condition holds, of what is there
abbrev pub holds : State → Test → Bool
holds s t = stands s t && passes s t

-- neither call returned before the other was made
abbrev pub Overlap : List Event → ℕ → ℕ → ℕ → ℕ → Type 0
Overlap events cpu number other_cpu other = (¬ ReturnsBefore events cpu number other_cpu other) × (¬ ReturnsBefore events other_cpu other cpu number)

-- The line's call overlaps this one, and the machine goes from the old state to the new one with the reply that the line claims.
pub record TakesLine (events : List Event) (cpu number : ℕ) (line : Line) (old new : State) : Type 0 where
  pub overlaps : Overlap events cpu number (cpu_named line) (number_named line)
  pub kind : IsOfItsKind events line
  pub called : ℕ
  pub command : Command
  pub is_called : IsCalled events called (cpu_named line) (number_named line) command
  pub given : Reply
  pub is_given : IsReplyOf events line given
  pub step : Step old (cpu_named line) command given new

-- the line is taken where it can be, and else the state stays
pub record Moves (events : List Event) (cpu number : ℕ) (line : Line) (old : State) (did : Bool) (new : State) : Type 0 where
  pub taken : IsTrue did → TakesLine events cpu number line old new
  pub kept : did ≡ false → new ≡ old
  pub only : did ≡ false → (next : State) → ¬ TakesLine events cpu number line old next

-- From the line of the first index on so many lines come, each taken where it can be; after none of them the condition holds.
abbrev pub IsMoved : List Event → List Line → ℕ → ℕ → Test → ℕ → ℕ → State → State → Type 0
IsMoved events lines cpu number t first zero old new = (new ≡ old) × (holds new t ≡ false)
IsMoved events lines cpu number t first (suc count) old new =
    (mid : State) × IsMoved events lines cpu number t first count old mid × (holds new t ≡ false)
    × IsLineFor lines (first + count) (λ line. (did : Bool) × Moves events cpu number line mid did new)

-- what is told of a condition that holds
abbrev pub made_by : Test → Fact
made_by (test.Tagged granule tag) = fact.Tag granule tag (Some tag)
made_by _ = fact.Nothing

-- The step comes after the failing line, and its call overlaps that line's call. The overlapping lines between are taken first, and leave
-- the condition as it fails; with this one it holds.
pub record IsLate (events : List Event) (lines : List Line) (index : ℕ)
    (call : NamedCall) (t : Test) (here : State) (late : LateCommit) : Type 0 where
  pub count : ℕ
  pub counted : late.step ≡ index + 1 + count + 1
  pub line : Line
  pub is_line : slice_get lines (index + 1 + count) ≡ Some line
  pub names : Names late.call.cpu late.call.number line
  pub told : IsTold events late.call
  pub old : State
  pub moved : IsMoved events lines call.cpu call.number t (index + 1) count here old
  pub new : State
  pub takes : TakesLine events call.cpu call.number line old new
  pub made : holds new t ≡ true
  pub makes : late.makes ≡ made_by t

-- with no later step of an overlapping call it holds
abbrev pub HasNoLate : List Event → List Line → ℕ → NamedCall → Test → State → Type 0
HasNoLate events lines index call t here =
    (count : ℕ) × (index + 1 + count ≡ length lines) × (last : State) × IsMoved events lines call.cpu call.number t (index + 1) count here last

-- of a condition; nothing of what else is watched
abbrev pub IsLateOf : List Event → List Line → ℕ → NamedCall → Watch → State → Option LateCommit → Type 0
IsLateOf events lines index call (watch.Condition t standing) here late =
    MatchOption late (HasNoLate events lines index call t here) (IsLate events lines index call t here)
IsLateOf events lines index call (watch.Accepted cpu command) here late = late ≡ None
IsLateOf events lines index call (watch.Read source) here late = late ≡ None
