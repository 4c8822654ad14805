-- What is known before the place.
use Rattle.registers.specs.Slots.{IsScan}
use Rattle.registers.proofs.scan.lost_register.Given as goal

abbrev pub invariant-places : goal.invariant-places
invariant-places l = IsScan l.history.recorded l.setting.owners.now l.place l.scan
