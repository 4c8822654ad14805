-- What is kept of the states that the lines lead to, of which so many were seen.
use Rattle.std.specs.Prelude.{◌≡◌, ◌≢◌, ℕ, ◌+◌, ◌-◌, ◌<◌, ◌≤◌, Bool, false, true, List, Option, Some, None}
use Rattle.rmm_spec.specs.declared.line.Line.{Line}
use Rattle.rmm_spec.specs.HistoryText.{History}
use Rattle.rmm_spec.specs.State.{State}
use Rattle.reasons.specs.declared.named_call.EarlierStep.{EarlierStep}
use Rattle.reasons.specs.declared.since.Since.{Since}
use Rattle.reasons.specs.declared.since.Since.TheVariants as since
use Rattle.explain.specs.declared.track.Kept.{Kept}
use Rattle.explain.specs.declared.track.Track.{Track}
use Rattle.explain.specs.declared.track.Turn.{Turn}
use Rattle.explain.specs.declared.watch.Sample.{Sample}
use Rattle.explain.specs.declared.watch.Watch.{Watch}
use Rattle.explain.specs.Watch.{At, has, is_so, is_there, showing, shown}

-- a sample is of the state
pub record IsSampleOf (s : State) (w : Watch) (sample : Sample) : Type 0 where
  pub so : sample.is_so ≡ is_so s w
  pub there : sample.is_there ≡ is_there s w
  pub read : sample.read.items ≡ has s w

-- from one count of lines on it is so, and right before that it wasn't
pub record IsTurn (history : History) (lines : List Line) (w : Watch) (seen : ℕ) (turn : Turn) : Type 0 where
  pub so : (count : ℕ) → turn.since ≤ count → count < seen → At history lines count (λ s. is_so s w ≡ true)
  pub turned : (before : ℕ) → turn.since ≡ before + 1 → At history lines before (λ s. (is_so s w ≡ false) × (is_there s w ≡ turn.was_there))
  pub within : turn.since ≤ seen

-- from one count of lines on this is seen, and right before that it wasn't
pub record IsKept (history : History) (lines : List Line) (w : Watch) (seen : ℕ) (kept : Kept) : Type 0 where
  pub read : (count : ℕ) → kept.set ≤ count → count < seen → At history lines count (λ s. shown s w ≡ showing kept.there kept.read.items)
  pub changed : (before : ℕ) → kept.set ≡ before + 1 → At history lines before (λ s. shown s w ≢ showing kept.there kept.read.items)
  pub within : kept.set ≤ seen - 1

pub record IsTrack (history : History) (lines : List Line) (w : Watch) (seen : ℕ) (track : Track) : Type 0 where
  pub turn : IsTurn history lines w seen track.turn
  pub kept : IsKept history lines w seen track.kept

-- what is told of a turn by the steps right before it and before the last change of what is read
abbrev pub since_told : Option EarlierStep → Option EarlierStep → Bool → Since
since_told None set was_there = since.Never None set
since_told (Some made) set true = since.Turned made
since_told (Some made) set false = since.Never (Some made) set
