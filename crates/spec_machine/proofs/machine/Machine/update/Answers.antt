use Rattle.spec_machine.proofs.Common.{changed, refl}
use Rattle.spec_machine.proofs.machine.Machine.update.Goals as goal

pub returns-in-None-None : goal.returns-in-None-None
unfolding changed
returns-in-None-None c = rw (c.in-None-None.is-0, c.in-None-None.is-1) refl
