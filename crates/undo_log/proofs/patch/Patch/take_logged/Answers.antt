use Rattle.undo_log.proofs.Common.{◌∙◌, Ok, ap, done_applies, reached_applies, state_of, sym}
use Rattle.spec_machine.proofs.Memory.{stretch_level}
use Rattle.spec_machine.proofs.Machines.{machine_sound}
use Rattle.undo_log.proofs.patch.Patch.take_logged.Goals as goal

pub apply_logged-requires : goal.apply_logged-requires
apply_logged-requires c =
    let is = sym c.requires.2 ∙ ap Ok c.in-Done.is in
    done_applies (state_of c.args.machine.now) c.requires.0 c.requires.1 _ _ (machine_sound c.args.machine.now) is

pub reach_logged-requires : goal.reach_logged-requires
reach_logged-requires c =
    let s = state_of c.args.machine.now in
    let is = sym c.requires.2 ∙ ap Ok c.in-Reaches.is in
    record {
      level = stretch_level s c.requires.0 c.requires.1 _ (machine_sound c.args.machine.now) is;
      can = λ top. reached_applies s c.requires.0 c.requires.1 _ top (machine_sound c.args.machine.now) is;
    }
