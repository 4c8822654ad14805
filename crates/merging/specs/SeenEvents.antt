-- What is seen of a moment, and of a line that was read.
use Rattle.std.specs.Prelude.{◌≡◌, ℕ, ◌≤◌, List, length, Option, IfSome}
use Rattle.rmi_view.specs.Seen as replied
use Rattle.rmi_view.specs.Seen.{command_seen, reply_seen}
use Rattle.merging.specs.Events.{Moment, Call, Commit, Return, Recorded, IsRecorded, IsMoment, moment_parts, recorded_parts, sizes_parts}
use Rattle.merging.specs.Table.{Happened}
use Rattle.rmm_spec.specs.HistoryText.{IsConfig}
use Rattle.rmm_spec.specs.declared.version.Version.TheVariants.{Large}
use Rattle.merging.specs.declared.line.Line.{Line}
use Rattle.merging.specs.declared.moment.HappenedRef.{HappenedRef}
use Rattle.merging.specs.declared.moment.MomentRef.{MomentRef}
use Rattle.merging.specs.declared.moment.MomentRef.TheVariants as seen

abbrev pub moment_seen : MomentRef → Moment
moment_seen (seen.Call command) = Call (command_seen command)
moment_seen (seen.Commit given) = Commit (reply_seen given)
moment_seen (seen.Return given) = Return (reply_seen given)

abbrev pub happened_seen : HappenedRef → Happened
happened_seen happened = record { line = happened.line; cpu = happened.cpu; moment = moment_seen happened.moment }

-- a moment with no more words than a command or a reply of its own has room for
abbrev pub HasFewWords : Moment → Type 0
HasFewWords (Call command) = length command.words.items ≤ 10
HasFewWords (Commit given) = replied.HasFewWords given
HasFewWords (Return given) = replied.HasFewWords given

abbrev pub IsFewMoment : Option MomentRef → Type 0
IsFewMoment found = IfSome found (λ moment. HasFewWords (moment_seen moment))

abbrev pub AreFew : Option HappenedRef → Type 0
AreFew found = IfSome found (λ happened. HasFewWords (moment_seen happened.moment))

-- the parts are those of the event
pub record IsLineOf (parts : List (List ℕ)) (event : Recorded) : Type 0 where
  pub is_recorded : IsRecorded event
  pub spelled : parts ≡ recorded_parts event

-- no event has these parts
abbrev pub IsNoLine : List (List ℕ) → Type 0
IsNoLine parts = (event : Recorded) → IsLineOf parts event → ⊥

-- a word and what stands behind it are those of the moment
pub record IsMomentOf (parts : List (List ℕ)) (moment : Moment) : Type 0 where
  pub is_moment : IsMoment moment
  pub spelled : parts ≡ moment_parts moment

abbrev pub line_seen : Line → Recorded
line_seen line = record { stamp = line.stamp; cpu = line.cpu; moment = moment_seen line.moment }

-- the parts are those of a header with these sizes
pub record IsSizesOf (parts : List (List ℕ)) (granules cpus : ℕ) : Type 0 where
  pub config : IsConfig (record { granules = granules; cpus = cpus; version = Large })
  pub spelled : parts ≡ sizes_parts granules cpus

abbrev pub IsNoSizes : List (List ℕ) → Type 0
IsNoSizes parts = (granules cpus : ℕ) → IsSizesOf parts granules cpus → ⊥
