use Rattle.world.proofs.Common.{inl, world_from, world_of}
use Rattle.rmm_spec.specs.declared.turn.Will.TheVariants as wills
use Rattle.world.proofs.Moves.{idle}
use Rattle.world.proofs.Goes.{ended-report}
use Rattle.world.proofs.world.World.rest.Goals as goal

pub invariant_of-self-clause-kept : goal.invariant_of-self-clause-kept
unfolding world_of world_from
invariant_of-self-clause-kept c =
    (idle c.args.self.now c.args.cpu wills.Go c.set_waits.new.self (inl c.requires.ended) c.set_waits.ensures.views).kept

pub returns-clause-turned : goal.returns-clause-turned
unfolding world_of world_from
returns-clause-turned c =
    (idle c.args.self.now c.args.cpu wills.Go c.set_waits.new.self (inl c.requires.ended) c.set_waits.ensures.views).turned

pub returns-clause-exact : goal.returns-clause-exact
returns-clause-exact c = ended-report (world_of c.args.self.now) c.args.cpu c.requires.ended
