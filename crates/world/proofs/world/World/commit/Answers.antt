use Rattle.world.proofs.Common.{◌∙◌, Config, Deciding, None, Ready, Views, ap, call_of, cells_of, commit_room, event_room, held_cells, holder_of, inl, inr, phase_in, put, refl, side_of, subst, sym, vec_len, views_of, world_from, world_of, world_with}
use Rattle.rmm_spec.specs.World.{hold_of}
use Rattle.command_core.specs.Settled.{is_settled}
use Rattle.world.specs.World.{waits_of}
use Rattle.world.proofs.Locked.{locks-of_size}
use Rattle.world.proofs.Taking.{not_deciding}
use Rattle.world.specs.Recorded.{RecordsIn, IsShortIn, MakesTable}
use Rattle.world.proofs.Commits.{records-commit, unchanged-kept, accepts-reached}
use Rattle.world.proofs.Goes.{next-report}
use Rattle.world.proofs.Moves.{committed}
use Rattle.world.proofs.world.World.commit.Goals as goal

pub unreachable-requires : goal.unreachable-requires
unfolding world_of world_from
unreachable-requires c = not_deciding c.phase.result.now c.in_default.not-Deciding _ _ _ (c.phase.ensures ∙ c.requires.ready.deciding.is_deciding)

pub returns-in_default-reserve-clause-err : goal.returns-in_default-reserve-clause-err
unfolding world_of world_from
returns-in_default-reserve-clause-err c =
    let s = c.args.self.now in
    ap (λ entries. world_with (cells_of s.cells) (side_of s.side) (views_of s.cpus) entries s.history.recorded) c.reserve.ensures.items

pub step-requires-clause-settled : goal.step-requires-clause-settled
unfolding world_of world_from
step-requires-clause-settled c =
    let w = world_of c.args.self.now in
    let is_open = sym c.phase.ensures ∙ ap phase_in c.in-Deciding.is in
    (λ i. is_settled (c.config-config.ensures i) (call_of (c.copied_command-command.ensures i)) (w.place c.args.cpu)
    (held_cells w c.args.cpu)) ∙ subst (RecordsIn w c.args.cpu) is_open (records-commit w c.args.cpu c.requires.ready)

pub step-requires-clause-distinct : goal.step-requires-clause-distinct
unfolding world_from
step-requires-clause-distinct c = c.args.self.now.kept.locked.distinct c.args.cpu

pub step-requires-clause-granules : goal.step-requires-clause-granules
unfolding world_from
step-requires-clause-granules c =
    let s = c.args.self.now in
    let taken = (views_of s.cpus).taken c.args.cpu in
    locks-of_size (vec_len s.cells.list) s.history.recorded.config.granules taken taken s.has_cells refl (s.kept.locked.within c.args.cpu)

pub invariant_of-self-in_default-step-clause-kept : goal.invariant_of-self-in_default-step-clause-kept
unfolding world_from
invariant_of-self-in_default-step-clause-kept c =
    let s = c.args.self.now in
    let same = c.in_default-step.ensures in
    unchanged-kept (cells_of s.cells) (cells_of c.step.new.cells) (side_of s.side)
    (side_of c.step.new.side) (views_of s.cpus) (views_of c.step.new.self)
    s.journal.items c.reserve.new.self.items s.history.recorded
    (holder_of s.locks) same.err_cells same.err_side same.err_views c.reserve.ensures.items s.kept

pub returns-in_default-step-clause-err : goal.returns-in_default-step-clause-err
unfolding world_of world_from
returns-in_default-step-clause-err c =
    let s = c.args.self.now in
    let same = c.in_default-step.ensures in
    λ i. world_with (same.err_cells i) (same.err_side i) (same.err_views i) (c.reserve.ensures.items i) s.history.recorded

pub returns-in_default-reserve-clause-only_short : goal.returns-in_default-reserve-clause-only_short
unfolding commit_room
returns-in_default-reserve-clause-only_short c =
    let s = c.args.self.now in
    subst (IsShortIn (event_room s) (commit_room s) (world_of s) c.args.cpu) (sym c.requires.ready.deciding.is_deciding)
    (inl c.in_default-reserve.ensures.full)

pub returns-in_default-step-clause-only_short : goal.returns-in_default-step-clause-only_short
unfolding world_of world_from
returns-in_default-step-clause-only_short c =
    let s = c.args.self.now in
    let w = world_of s in
    let is_open = sym c.phase.ensures ∙ ap phase_in c.in-Deciding.is
    ∙ (λ i. Deciding c.in-Deciding.number (sym c.copied_command-command.ensures i) c.in-Deciding.learnt) in
    let makes =
    subst (λ (config : Config). MakesTable config c.args.cpu c.copied_command-command.result (hold_of w c.args.cpu)) c.config-config.ensures
    c.in_default-step.ensures.only in
    subst (IsShortIn (event_room s) (commit_room s) w c.args.cpu) (sym is_open)
    (inr (accepts-reached s.history.recorded.config w (views_of s.cpus).waits c.args.cpu c.copied_command-command.result s.kept.reached makes))

pub returns-in_default-reserve-clause-only_recorded : goal.returns-in_default-reserve-clause-only_recorded
returns-in_default-reserve-clause-only_recorded c = records-commit (world_of c.args.self.now) c.args.cpu c.requires.ready

pub returns-in_default-step-clause-only_recorded : goal.returns-in_default-step-clause-only_recorded
returns-in_default-step-clause-only_recorded c = records-commit (world_of c.args.self.now) c.args.cpu c.requires.ready

pub invariant_of-self-2-clause-kept : goal.invariant_of-self-2-clause-kept
unfolding world_of world_from
invariant_of-self-2-clause-kept c =
    let s = c.args.self.now in
    (committed s c.args.cpu c.requires.cpu c.step.new.cells c.step.new.side c.step.new.self c.come_to.new.self c.reserve.new.self.items
    c.push_reserved.new.self.items c.config-config.result _ _ c.copied_command-command.result _ c.in-Ok-step.reply
    c.config-config.ensures (sym c.phase.ensures ∙ ap phase_in c.in-Deciding.is)
    c.copied_command-command.ensures c.in-Ok-step.ensures.ok c.come_to.ensures.views
    c.reserve.ensures.items c.push_reserved.ensures.items).0.kept

pub returns-clause-turned : goal.returns-clause-turned
unfolding world_of world_from
returns-clause-turned c =
    let s = c.args.self.now in
    (committed s c.args.cpu c.requires.cpu c.step.new.cells c.step.new.side c.step.new.self c.come_to.new.self c.reserve.new.self.items
    c.push_reserved.new.self.items c.config-config.result _ _ c.copied_command-command.result _ c.in-Ok-step.reply
    c.config-config.ensures (sym c.phase.ensures ∙ ap phase_in c.in-Deciding.is)
    c.copied_command-command.ensures c.in-Ok-step.ensures.ok c.come_to.ensures.views
    c.reserve.ensures.items c.push_reserved.ensures.items).0.turned

pub returns-clause-waits : goal.returns-clause-waits
unfolding waits_of
returns-clause-waits c =
    ap (λ (v : Views). v.waits) c.come_to.ensures.views ∙ ap (λ (v : Views). put v.waits c.args.cpu None) c.in-Ok-step.ensures.ok.has_views

pub returns-clause-exact : goal.returns-clause-exact
returns-clause-exact c = next-report (world_of c.args.self.now) c.args.cpu Ready c.requires.ready

pub returns-clause-does : goal.returns-clause-does
unfolding world_of world_from
returns-clause-does c =
    let s = c.args.self.now in (
      refl,
      (committed s c.args.cpu c.requires.cpu c.step.new.cells c.step.new.side c.step.new.self c.come_to.new.self c.reserve.new.self.items
          c.push_reserved.new.self.items c.config-config.result _ _ c.copied_command-command.result _ c.in-Ok-step.reply
          c.config-config.ensures (sym c.phase.ensures ∙ ap phase_in c.in-Deciding.is)
          c.copied_command-command.ensures c.in-Ok-step.ensures.ok c.come_to.ensures.views
          c.reserve.ensures.items c.push_reserved.ensures.items).1,
    )
