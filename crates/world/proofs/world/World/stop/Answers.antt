use Rattle.world.proofs.Common.{◌∙◌, sym, world_from, world_of}
use Rattle.rmm_spec.specs.declared.turn.Will.TheVariants as wills
use Rattle.world.proofs.Phases.{going-false}
use Rattle.world.proofs.Moves.{idle, stopped}
use Rattle.world.proofs.world.World.stop.Goals as goal

pub invariant_of-self-clause-kept : goal.invariant_of-self-clause-kept
unfolding world_of world_from
invariant_of-self-clause-kept c =
    (idle c.args.self.now c.args.cpu wills.Stop c.set_waits.new.self
    (going-false _ (sym c.is_going.ensures ∙ c.if-not-is_going.true)) c.set_waits.ensures.views).kept

pub returns-then-not-is_going-clause-turned : goal.returns-then-not-is_going-clause-turned
unfolding world_of world_from
returns-then-not-is_going-clause-turned c =
    (idle c.args.self.now c.args.cpu wills.Stop c.set_waits.new.self
    (going-false _ (sym c.is_going.ensures ∙ c.if-not-is_going.true)) c.set_waits.ensures.views).turned

pub invariant_of-self-2-clause-kept : goal.invariant_of-self-2-clause-kept
unfolding world_of world_from
invariant_of-self-2-clause-kept c =
    (stopped c.args.self.now c.args.cpu c.requires c.come_to.new.self (sym c.is_going.ensures ∙ c.if-not-is_going.false) c.come_to.ensures.views).kept

pub returns-clause-turned : goal.returns-clause-turned
unfolding world_of world_from
returns-clause-turned c =
    (stopped c.args.self.now c.args.cpu c.requires c.come_to.new.self
    (sym c.is_going.ensures ∙ c.if-not-is_going.false) c.come_to.ensures.views).turned
