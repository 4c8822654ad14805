use Rattle.world.proofs.Common.{Did, arith, commit_room, event_room, refl, subst, sym, world_from, world_of}
use Rattle.rmm_spec.specs.declared.turn.Will.TheVariants as wills
use Rattle.rmm_spec.specs.Waits as turn
use Rattle.world.specs.Recorded.{RecordsIn, IsShortIn}
use Rattle.world.proofs.Follows.{return-follows, next-number, none_left}
use Rattle.world.proofs.Moves.{made, returned}
use Rattle.world.proofs.Goes.{returned-report}
use Rattle.world.proofs.world.World.return_reply.Goals as goal

pub push-requires-clause-follows : goal.push-requires-clause-follows
unfolding world_of world_from
push-requires-clause-follows c =
    (return-follows c.args.self.now c.args.cpu c.args.number c.well_formed-fact.ensures.config c.requires.cpu c.requires.decided.0 c.args.reply
    c.requires.decided.1 c.requires.none).0

pub push-requires-clause-line : goal.push-requires-clause-line
unfolding world_of world_from
push-requires-clause-line c =
    (return-follows c.args.self.now c.args.cpu c.args.number c.well_formed-fact.ensures.config c.requires.cpu c.requires.decided.0 c.args.reply
    c.requires.decided.1 c.requires.none).1

pub returns-in_default-clause-only_recorded : goal.returns-in_default-clause-only_recorded
returns-in_default-clause-only_recorded c =
    subst (RecordsIn (world_of c.args.self.now) c.args.cpu) (sym c.requires.decided.1) c.requires.none

pub returns-in_default-clause-only_short : goal.returns-in_default-clause-only_short
unfolding event_room
returns-in_default-clause-only_short c =
    let s = c.args.self.now in
    subst (IsShortIn (event_room s) (commit_room s) (world_of s) c.args.cpu) (sym c.requires.decided.1)
    (none_left s.history.room c.in_default.ensures.succeeds)

pub overflow_add-number : goal.overflow_add-number
unfolding world_of world_from
overflow_add-number c =
    omega (arith, next-number c.args.self.now c.args.cpu c.args.number c.requires.decided.0 c.args.reply c.requires.decided.1)

pub invariant_of-self-2-clause-kept : goal.invariant_of-self-2-clause-kept
unfolding world_of world_from
invariant_of-self-2-clause-kept c =
    let s = c.args.self.now in
    (made s c.args.cpu wills.Go (Did turn.Return)
    c.come_to.new.self c.push.new.self.recorded s.locks _ _ _ c.come_to.ensures.views c.in-Ok.ensures.ok refl
    (returned s c.args.cpu c.requires.cpu c.args.number c.requires.decided.0 c.args.reply c.requires.decided.1 c.requires.none)).kept

pub returns-clause-turned : goal.returns-clause-turned
unfolding world_of world_from
returns-clause-turned c =
    let s = c.args.self.now in
    (made s c.args.cpu wills.Go (Did turn.Return)
    c.come_to.new.self c.push.new.self.recorded s.locks _ _ _ c.come_to.ensures.views c.in-Ok.ensures.ok refl
    (returned s c.args.cpu c.requires.cpu c.args.number c.requires.decided.0 c.args.reply c.requires.decided.1 c.requires.none)).turned

pub returns-clause-exact : goal.returns-clause-exact
returns-clause-exact c =
    returned-report (world_of c.args.self.now) c.args.cpu c.args.number c.requires.decided.0 c.args.reply c.requires.decided.1 c.requires.none
