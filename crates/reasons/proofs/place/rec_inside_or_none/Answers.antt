-- Outside, none is the one that runs.
use Rattle.std.proofs.Common.{sym}
use Rattle.spec_machine.specs.View.{state_of}
use Rattle.reasons.proofs.Exiting.{rec_inside-outside}
use Rattle.reasons.proofs.place.rec_inside_or_none.Goals as goal

pub returns-in-None : goal.returns-in-None
returns-in-None c = sym (rec_inside-outside (state_of c.args.machine.now) c.args.cpu (sym c.in-None.ensures.is))
