use Rattle.world.proofs.Common.{◌∙◌, ap, holder_of, sym, vec_len, views_of, world_from, world_of}
use Rattle.rmm_spec.specs.declared.turn.Will.TheVariants as wills
use Rattle.world.specs.Kept.{freed_all}
use Rattle.world.proofs.Locked.{locks-of_size}
use Rattle.world.proofs.Phases.{deciding-false}
use Rattle.world.proofs.Moves.{idle, gave_up}
use Rattle.world.proofs.world.World.give_up.Goals as goal

pub invariant_of-self-clause-kept : goal.invariant_of-self-clause-kept
unfolding world_of world_from
invariant_of-self-clause-kept c =
    (idle c.args.self.now c.args.cpu wills.GiveUp c.set_waits.new.self
    (deciding-false (world_of c.args.self.now) c.args.cpu (sym c.is_deciding.ensures ∙ c.if-not-is_deciding.true)) c.set_waits.ensures.views).kept

pub returns-then-not-is_deciding-clause-turned : goal.returns-then-not-is_deciding-clause-turned
unfolding world_of world_from
returns-then-not-is_deciding-clause-turned c =
    (idle c.args.self.now c.args.cpu wills.GiveUp c.set_waits.new.self
    (deciding-false (world_of c.args.self.now) c.args.cpu (sym c.is_deciding.ensures ∙ c.if-not-is_deciding.true)) c.set_waits.ensures.views).turned

pub free_all-requires : goal.free_all-requires
unfolding world_from
free_all-requires c =
    let s = c.args.self.now in
    locks-of_size (vec_len s.locks.holders) s.history.recorded.config.granules c.taken.result.now ((views_of s.cpus).taken c.args.cpu) s.has_locks
    c.taken.ensures.taken (s.kept.locked.within c.args.cpu)

pub invariant_of-self-2-clause-kept : goal.invariant_of-self-2-clause-kept
unfolding world_of world_from
invariant_of-self-2-clause-kept c =
    (gave_up c.args.self.now c.args.cpu c.requires c.give_up.new.self c.free_all.new.self (sym c.is_deciding.ensures ∙ c.if-not-is_deciding.false)
    (c.free_all.ensures.holders ∙ ap (λ taken. freed_all taken (holder_of c.args.self.now.locks)) c.taken.ensures.taken) c.give_up.ensures.views).kept

pub returns-clause-turned : goal.returns-clause-turned
unfolding world_of world_from
returns-clause-turned c =
    (gave_up c.args.self.now c.args.cpu c.requires c.give_up.new.self c.free_all.new.self (sym c.is_deciding.ensures ∙ c.if-not-is_deciding.false)
    (c.free_all.ensures.holders ∙ ap (λ taken. freed_all taken (holder_of c.args.self.now.locks)) c.taken.ensures.taken)
    c.give_up.ensures.views).turned
