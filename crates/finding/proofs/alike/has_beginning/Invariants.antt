-- The machine is where it was.
use Rattle.finding.proofs.Common.{◌≡◌}
use Rattle.undo_log.specs.Patches.{standing_of}
use Rattle.finding.proofs.alike.has_beginning.Given as goal

abbrev pub invariant-orders : goal.invariant-orders
invariant-orders l = standing_of l.machine ≡ standing_of l.fn.machine
