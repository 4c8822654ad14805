-- The CPUs so far that are inside are the call's.
use Rattle.std.proofs.Common.{◌≡◌, ◌<◌, true, ℕ}
use Rattle.finding.specs.Group.{is_inside}
use Rattle.finding.proofs.group.Group.is_alone.Given as goal

abbrev pub invariant-loop-cpu : goal.invariant-loop-cpu
invariant-loop-cpu l = record { alone : (cpu : ℕ) → cpu < l.cpu → is_inside l.self cpu ≡ true → cpu ≡ l.self.first.cpu }
