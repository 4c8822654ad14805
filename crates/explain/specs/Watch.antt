-- What is watched on the way to a failing line, and since which step it is so.
use Rattle.std.specs.Prelude.{◌≡◌, ◌≢◌, ℕ, ◌+◌, ◌<◌, ◌≤◌, Bool, true, false, not, ◌&&◌, ◌||◌, List, [], take, Result, Ok, Err, Option, Some, None, IfSome, MatchOption}
use Rattle.rmm_spec.specs.declared.accepted.Accepted.{Accepted}
use Rattle.rmm_spec.specs.declared.line.Line.{Line}
use Rattle.rmm_spec.specs.declared.refusal.Refusal.{Refusal}
use Rattle.rmm_spec.specs.Call.{call_of}
use Rattle.rmm_spec.specs.HistoryText.{History}
use Rattle.rmm_spec.specs.State.{State}
use Rattle.rmm_spec.specs.Step.{outcome}
use Rattle.rmm_spec.specs.FirstFault.{Passes}
use Rattle.reasons.specs.Reading.{read, source_of, stands_for}
use Rattle.reasons.specs.Tests.{passes, stands}
use Rattle.reasons.specs.declared.named_call.EarlierStep.{EarlierStep}
use Rattle.reasons.specs.declared.since.Since.{Since}
use Rattle.reasons.specs.declared.since.Since.TheVariants as since
use Rattle.explain.specs.declared.watch.Watch.{Watch}
use Rattle.explain.specs.declared.watch.Watch.TheVariants as watch
use Rattle.explain.specs.Told.{IsTold, NamesAt}

-- ---- what is watched

abbrev pub is_accepted : Result Accepted Refusal → Bool
is_accepted (Ok accepted) = true
is_accepted (Err refused) = false

-- A condition fails: its test does, and what it is about is there, if it is there before the failing line. A command is accepted. A source
-- is only read.
unfoldable pub is_so : State → Watch → Bool
is_so s (watch.Condition test standing) = (stands s test || not standing) && not (passes s test)
is_so s (watch.Accepted cpu command) = is_accepted (outcome s cpu (call_of command))
is_so s (watch.Read source) = true

-- whether what it is about is there
unfoldable pub is_there : State → Watch → Bool
is_there s (watch.Condition test standing) = stands s test || not standing
is_there s (watch.Accepted cpu command) = true
is_there s (watch.Read source) = stands_for s source

-- what it is read from
unfoldable pub has : State → Watch → List ℕ
has s (watch.Condition test standing) = read s (source_of test)
has s (watch.Accepted cpu command) = []
has s (watch.Read source) = read s source

-- whether something is there, and what is read of it
abbrev pub showing : Bool → List ℕ → Bool × List ℕ
showing there words = (there, words)

-- of what it is about
abbrev pub shown : State → Watch → Bool × List ℕ
shown s w = showing (is_there s w) (has s w)

-- ---- along the lines

-- this is said of the state that so many lines lead to
abbrev pub At : History → List Line → ℕ → (State → Type 0) → Type 0
At history lines count Says = (s : State) × Passes history (take count lines) s × Says s

-- of each state from one count of lines up to another
abbrev pub Throughout : History → List Line → ℕ → ℕ → (State → Type 0) → Type 0
Throughout history lines first last Says = (count : ℕ) → first ≤ count → count ≤ last → At history lines count Says

-- the line of an earlier step names the call
abbrev pub IsEarlier : History → List Line → ℕ → EarlierStep → Type 0
IsEarlier history lines step earlier =
    NamesAt lines earlier.step earlier.call.cpu earlier.call.number × IsTold history.events earlier.call × (earlier.step < step)

-- it is said from the step on up to the failing line, after as many lines as come before it, and something else right before the step
abbrev pub IsFrom : History → List Line → ℕ → Option EarlierStep → (State → Type 0) → (State → Type 0) → Type 0
IsFrom history lines index None Before After = Throughout history lines 0 index After
IsFrom history lines index (Some earlier) Before After =
    IsEarlier history lines (index + 1) earlier × Throughout history lines earlier.step index After
    × (before : ℕ) × (earlier.step ≡ before + 1) × At history lines before Before

-- what a step made was set by no earlier one
abbrev pub IsOfLife : Option EarlierStep → Option EarlierStep → Type 0
IsOfLife made set = IfSome made (λ life. MatchOption set ⊥ (λ last. life.step ≤ last.step))

-- It is so from the step on, and right before it wasn't; what it is about was there then where it turned, and wasn't where that was made.
-- From the step on that set it, what it is about is there as it is now, and what it is read from is as it is. So that is of the life of
-- what stands there now.
abbrev pub IsSince : History → List Line → ℕ → Watch → Since → Type 0
IsSince history lines index w (since.Turned earlier) =
    IsFrom history lines index (Some earlier) (λ s. (is_so s w ≡ false) × (is_there s w ≡ true)) (λ s. is_so s w ≡ true)
IsSince history lines index w (since.Never made set) =
    IsFrom history lines index made (λ s. (is_so s w ≡ false) × (is_there s w ≡ false)) (λ s. is_so s w ≡ true)
    × (now : Bool × List ℕ) × IsFrom history lines index set (λ s. shown s w ≢ now) (λ s. shown s w ≡ now)
    × IsOfLife made set
