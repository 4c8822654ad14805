use Rattle.world.proofs.Common.{ap, cells_of, side_of, vec_len, views_of, world_from, world_of, world_with}
use Rattle.world.proofs.Locked.{granule-taken}
use Rattle.world.proofs.Moves.{freed}
use Rattle.world.proofs.world.World.free_lock.Goals as goal

pub set-requires : goal.set-requires
unfolding world_of world_from
set-requires c =
    let s = c.args.self.now in
    granule-taken (vec_len s.locks.holders) s.history.recorded.config.granules ((views_of s.cpus).taken c.args.cpu) c.args.pa s.has_locks
    (s.kept.locked.within c.args.cpu) c.requires.held

pub invariant_of-self-clause-kept : goal.invariant_of-self-clause-kept
unfolding world_of world_from
invariant_of-self-clause-kept c =
    (freed c.args.self.now c.args.cpu c.requires.cpu c.free.new.self c.set.new.self c.args.pa c.args.learnt c.requires.held c.requires.learnt
    c.requires.freed c.set.ensures.holders c.free.ensures.views).kept

pub returns-clause-turned : goal.returns-clause-turned
unfolding world_of world_from
returns-clause-turned c =
    (freed c.args.self.now c.args.cpu c.requires.cpu c.free.new.self c.set.new.self c.args.pa c.args.learnt c.requires.held c.requires.learnt
    c.requires.freed c.set.ensures.holders c.free.ensures.views).turned

pub returns-clause-freed : goal.returns-clause-freed
unfolding world_of world_from
returns-clause-freed c =
    let s = c.args.self.now in
    ap (λ v. world_with (cells_of s.cells) (side_of s.side) v s.journal.items s.history.recorded) c.free.ensures.views
