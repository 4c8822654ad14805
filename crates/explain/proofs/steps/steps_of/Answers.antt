-- It is so in the machine's state.
use Rattle.explain.proofs.Common.{state_of}
use Rattle.explain.proofs.steps.steps_of.Goals as goal

pub since_of-requires-clause-now : goal.since_of-requires-clause-now
since_of-requires-clause-now c = (state_of c.args.machine.now, c.requires.left, c.requires.so)
