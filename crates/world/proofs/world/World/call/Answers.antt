use Rattle.world.proofs.Common.{◌++◌, ◌∙◌, ◌∷◌, Did, Some, [], ap, commit_room, event_room, refl, subst, sym, world_from, world_of}
use Rattle.std.proofs.lemmas.Option.{slice_get_within}
use Rattle.rmm_spec.specs.declared.event.Event.TheVariants.{Called}
use Rattle.rmm_spec.specs.declared.turn.Will.TheVariants as wills
use Rattle.rmm_spec.specs.Waits as turn
use Rattle.world.specs.Recorded.{RecordsIn, IsShortIn}
use Rattle.world.proofs.Calls.{all-called}
use Rattle.world.proofs.Follows.{call-follows, none_left}
use Rattle.world.proofs.Moves.{idle, made, called}
use Rattle.world.proofs.Goes.{called-report, all_called-report}
use Rattle.world.proofs.world.World.call.Goals as goal

pub invariant_of-self-clause-kept : goal.invariant_of-self-clause-kept
unfolding world_of world_from
invariant_of-self-clause-kept c =
    (idle c.args.self.now c.args.cpu wills.Go c.set_waits.new.self
    (all-called (world_of c.args.self.now) c.args.cpu c.args.number c.requires.between (sym c.next_command.ensures ∙ c.in_default.is))
    c.set_waits.ensures.views).kept

pub returns-in_default-clause-turned : goal.returns-in_default-clause-turned
unfolding world_of world_from
returns-in_default-clause-turned c =
    (idle c.args.self.now c.args.cpu wills.Go c.set_waits.new.self
    (all-called (world_of c.args.self.now) c.args.cpu c.args.number c.requires.between (sym c.next_command.ensures ∙ c.in_default.is))
    c.set_waits.ensures.views).turned

pub push-requires-clause-follows : goal.push-requires-clause-follows
unfolding world_of world_from
push-requires-clause-follows c =
    (call-follows c.args.self.now c.args.cpu c.args.number c.well_formed-fact.ensures.config c.requires.cpu c.copied_command.result c.requires.between
    (sym c.next_command.ensures ∙ c.in-Some.is ∙ ap Some (sym c.copied_command.ensures))).0

pub push-requires-clause-line : goal.push-requires-clause-line
unfolding world_of world_from
push-requires-clause-line c =
    (call-follows c.args.self.now c.args.cpu c.args.number c.well_formed-fact.ensures.config c.requires.cpu c.copied_command.result c.requires.between
    (sym c.next_command.ensures ∙ c.in-Some.is ∙ ap Some (sym c.copied_command.ensures))).1

pub returns-in_default-push-clause-only_recorded : goal.returns-in_default-push-clause-only_recorded
unfolding world_of world_from
returns-in_default-push-clause-only_recorded c =
    let w = world_of c.args.self.now in
    subst (RecordsIn w c.args.cpu) (sym c.requires.between)
    (slice_get_within (w.program c.args.cpu) 0 c.in-Some.command (sym c.next_command.ensures ∙ c.in-Some.is))

pub returns-in_default-push-clause-only_short : goal.returns-in_default-push-clause-only_short
unfolding world_of world_from event_room
returns-in_default-push-clause-only_short c =
    let s = c.args.self.now in
    subst (IsShortIn (event_room s) (commit_room s) (world_of s) c.args.cpu) (sym c.requires.between)
    (none_left s.history.room c.in_default-push.ensures.succeeds)

pub invariant_of-self-2-clause-kept : goal.invariant_of-self-2-clause-kept
unfolding world_of world_from
invariant_of-self-2-clause-kept c =
    let s = c.args.self.now in
    let more = c.in-Ok.ensures.ok ∙ ap (λ command. record s.history.recorded {
      events = s.history.recorded.events ++ Called c.args.cpu c.args.number command ∷ [];
    }) c.copied_command.ensures in
    (made s c.args.cpu wills.Go (Did turn.Call) c.open_call.new.self c.push.new.self.recorded s.locks _ _ _ c.open_call.ensures.views more refl
    (called s c.args.cpu c.requires.cpu c.args.number c.in-Some.command c.requires.between (sym c.next_command.ensures ∙ c.in-Some.is))).kept

pub returns-clause-turned : goal.returns-clause-turned
unfolding world_of world_from
returns-clause-turned c =
    let s = c.args.self.now in
    let more = c.in-Ok.ensures.ok ∙ ap (λ command. record s.history.recorded {
      events = s.history.recorded.events ++ Called c.args.cpu c.args.number command ∷ [];
    }) c.copied_command.ensures in
    (made s c.args.cpu wills.Go (Did turn.Call) c.open_call.new.self c.push.new.self.recorded s.locks _ _ _ c.open_call.ensures.views more refl
    (called s c.args.cpu c.requires.cpu c.args.number c.in-Some.command c.requires.between (sym c.next_command.ensures ∙ c.in-Some.is))).turned

pub returns-in_default-clause-exact : goal.returns-in_default-clause-exact
unfolding world_of world_from
returns-in_default-clause-exact c =
    all_called-report (world_of c.args.self.now) c.args.cpu c.args.number c.requires.between (sym c.next_command.ensures ∙ c.in_default.is)

pub returns-clause-exact : goal.returns-clause-exact
unfolding world_of world_from
returns-clause-exact c =
    called-report (world_of c.args.self.now) c.args.cpu c.args.number c.in-Some.command c.requires.between (sym c.next_command.ensures ∙ c.in-Some.is)
