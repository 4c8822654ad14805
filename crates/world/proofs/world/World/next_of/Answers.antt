use Rattle.world.proofs.Common.{◌∙◌, IsTrue, ap, are_distinct, cells_at, cells_of, commit_room, event_room, holder_of, phase_in, place_of, put_all, refl, side_of, subst, sym, vec_len, views_of, world_from, world_of, world_with}
use Rattle.rmm_spec.specs.Local.{granules_held}
use Rattle.command_core.specs.Pairs.{pair_cells}
use Rattle.world.specs.Kept.{IsKept}
use Rattle.world.proofs.Locked.{locks-of_size}
use Rattle.world.proofs.Lending.{put_all-given_back}
use Rattle.world.proofs.Taking.{not_deciding, next-planned}
use Rattle.world.proofs.world.World.next_of.Goals as goal

pub lend-lent-requires-clause-distinct : goal.lend-lent-requires-clause-distinct
unfolding world_from
lend-lent-requires-clause-distinct c =
    subst (λ taken. IsTrue (are_distinct taken)) (sym c.taken.ensures.taken) (c.args.self.now.kept.locked.distinct c.args.cpu)

pub lend-lent-requires-clause-granules : goal.lend-lent-requires-clause-granules
unfolding world_from
lend-lent-requires-clause-granules c =
    let s = c.args.self.now in
    locks-of_size (vec_len s.cells.list) s.history.recorded.config.granules c.taken.result.now ((views_of s.cpus).taken c.args.cpu) s.has_cells
    c.taken.ensures.taken (s.kept.locked.within c.args.cpu)

pub unreachable-requires : goal.unreachable-requires
unfolding world_of world_from
unreachable-requires c = not_deciding c.phase.result.now c.in_default.not-Deciding _ _ _ (c.phase.ensures ∙ c.requires.deciding.is_deciding)

pub give_back-requires : goal.give_back-requires
unfolding world_from
give_back-requires c =
    let s = c.args.self.now in
    locks-of_size (vec_len c.lend-lent.new.cells.list) s.history.recorded.config.granules (granules_held (pair_cells c.lend-lent.result))
    ((views_of s.cpus).taken c.args.cpu) (c.lend-lent.ensures.size ∙ s.has_cells) (c.lend-lent.ensures.granules ∙ c.taken.ensures.taken)
    (s.kept.locked.within c.args.cpu)

pub invariant_of-self-clause-kept : goal.invariant_of-self-clause-kept
unfolding world_from
invariant_of-self-clause-kept c =
    let s = c.args.self.now in
    let back = c.give_back.ensures.cells ∙ ap (put_all (cells_of c.lend-lent.new.cells)) c.lend-lent.ensures.lent
    ∙ put_all-given_back c.taken.result.now (cells_of s.cells) (cells_of c.lend-lent.new.cells) c.lend-lent.ensures.kept in
    subst (λ cells. IsKept (world_with cells (side_of s.side) (views_of s.cpus) s.journal.items s.history.recorded) (holder_of s.locks)
    (views_of s.cpus).waits) (sym back) s.kept

pub returns-clause-world : goal.returns-clause-world
unfolding world_of world_from
returns-clause-world c =
    let s = c.args.self.now in
    let back = c.give_back.ensures.cells ∙ ap (put_all (cells_of c.lend-lent.new.cells)) c.lend-lent.ensures.lent
    ∙ put_all-given_back c.taken.result.now (cells_of s.cells) (cells_of c.lend-lent.new.cells) c.lend-lent.ensures.kept in
    ap (λ cells. world_with cells (side_of s.side) (views_of s.cpus) s.journal.items s.history.recorded) back

pub returns-clause-next : goal.returns-clause-next
unfolding world_of world_from
returns-clause-next c =
    let s = c.args.self.now in
    next-planned (world_of s) c.args.cpu c.next_lock-next.result c.config-config.result (place_of c.place.result.now)
    (pair_cells c.lend-lent.result) c.in-Deciding.number c.in-Deciding.command c.in-Deciding.learnt
    (sym c.phase.ensures ∙ ap phase_in c.in-Deciding.is) c.config-config.ensures c.place.ensures
    (c.lend-lent.ensures.lent ∙ ap (cells_at (cells_of s.cells)) c.taken.ensures.taken)
    c.next_lock-next.ensures.exact c.next_lock-next.ensures.planned c.next_lock-next.ensures.settled

pub returns-clause-events : goal.returns-clause-events
unfolding event_room
returns-clause-events c = refl

pub returns-clause-commits : goal.returns-clause-commits
unfolding commit_room
returns-clause-commits c = refl
