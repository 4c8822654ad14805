use Rattle.world.proofs.Common.{◌∙◌, ap, cells_of, false, refl, side_of, sym, true, world_from, world_of, world_with}
use Rattle.world.proofs.Taking.{lock-next, rising-next, room-rising}
use Rattle.world.proofs.Moves.{blocked, took}
use Rattle.command_core.specs.declared.next.Next.TheVariants as next
use Rattle.world.proofs.Goes.{next-report, take-report, is_taken-held, is_taken-free, taken-held}
use Rattle.world.proofs.world.World.take.Goals as goal

pub holder-requires : goal.holder-requires
holder-requires c = lock-next c.args.self.now c.args.cpu c.args.pa c.requires.next

pub invariant_of-self-clause-kept : goal.invariant_of-self-clause-kept
unfolding world_of world_from
invariant_of-self-clause-kept c =
    let s = c.args.self.now in
    (blocked s c.args.cpu c.args.pa c.in-Some._other c.set_waits.new.self c.requires.next
    (sym c.holder.ensures ∙ c.in-Some.is) c.set_waits.ensures.views).kept

pub returns-in-Some-clause-turned : goal.returns-in-Some-clause-turned
unfolding world_of world_from
returns-in-Some-clause-turned c =
    let s = c.args.self.now in
    (blocked s c.args.cpu c.args.pa c.in-Some._other c.set_waits.new.self c.requires.next
    (sym c.holder.ensures ∙ c.in-Some.is) c.set_waits.ensures.views).turned

pub returns-in-Some-clause-does : goal.returns-in-Some-clause-does
unfolding world_of world_from
returns-in-Some-clause-does c =
    let s = c.args.self.now in
    (refl, ap (λ v. world_with (cells_of s.cells) (side_of s.side) v s.journal.items s.history.recorded) c.set_waits.ensures.views)

pub take-requires-clause-room : goal.take-requires-clause-room
unfolding world_of world_from
take-requires-clause-room c =
    let w = world_of c.args.self.now in
    room-rising w c.args.cpu c.args.pa (rising-next w c.args.cpu c.args.pa c.requires.next)

pub set-requires : goal.set-requires
set-requires c = lock-next c.args.self.now c.args.cpu c.args.pa c.requires.next

pub invariant_of-self-2-clause-kept : goal.invariant_of-self-2-clause-kept
unfolding world_of world_from
invariant_of-self-2-clause-kept c =
    let s = c.args.self.now in
    (took s c.args.cpu c.requires.cpu c.take.new.self c.set.new.self c.args.pa (rising-next (world_of s) c.args.cpu c.args.pa c.requires.next)
    (sym c.holder.ensures ∙ c.in_default.is) c.set.ensures.holders c.take.ensures.views).kept

pub returns-clause-turned : goal.returns-clause-turned
unfolding world_of world_from
returns-clause-turned c =
    let s = c.args.self.now in
    (took s c.args.cpu c.requires.cpu c.take.new.self c.set.new.self c.args.pa (rising-next (world_of s) c.args.cpu c.args.pa c.requires.next)
    (sym c.holder.ensures ∙ c.in_default.is) c.set.ensures.holders c.take.ensures.views).turned

pub returns-clause-does : goal.returns-clause-does
unfolding world_of world_from
returns-clause-does c =
    let s = c.args.self.now in
    (refl, ap (λ v. world_with (cells_of s.cells) (side_of s.side) v s.journal.items s.history.recorded) c.take.ensures.views)

pub returns-in-Some-clause-exact : goal.returns-in-Some-clause-exact
returns-in-Some-clause-exact c =
    let s = c.args.self.now in
    let w = world_of s in
    let held = is_taken-held s c.in-Some._other c.args.pa (taken-held s c.in-Some._other c.args.pa (sym c.holder.ensures ∙ c.in-Some.is)) in
    sym (take-report w c.args.pa true held) ∙ next-report w c.args.cpu (next.Take c.args.pa) c.requires.next

pub returns-clause-exact : goal.returns-clause-exact
returns-clause-exact c =
    let s = c.args.self.now in
    let w = world_of s in
    sym (take-report w c.args.pa false (is_taken-free s c.args.pa (sym c.holder.ensures ∙ c.in_default.is)))
    ∙ next-report w c.args.cpu (next.Take c.args.pa) c.requires.next
