-- No call so far reads a measurement.
use Rattle.std.proofs.Common.{◌≡◌, ℕ, ◌<◌, false}
use Rattle.rmm_spec.specs.declared.command.Command.{Command}
use Rattle.rmm_spec.specs.Linearization.{IsCalled}
use Rattle.verdict_laws.specs.Unread.{is_reading}
use Rattle.finding.proofs.unread.reads_nothing.Given as goal

abbrev pub invariant-loop-place : goal.invariant-loop-place
invariant-loop-place l = (place cpu number : ℕ) (command : Command) → place < l.place → IsCalled l.history.recorded.events place cpu number command
    → is_reading command ≡ false
