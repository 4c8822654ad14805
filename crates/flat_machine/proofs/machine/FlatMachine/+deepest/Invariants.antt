use Rattle.flat_machine.proofs.machine.FlatMachine.+deepest.Given as goal

abbrev pub decreases-deepest : goal.decreases-deepest
decreases-deepest l = l.max
