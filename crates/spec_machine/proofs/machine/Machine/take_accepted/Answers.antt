use Rattle.spec_machine.proofs.Common.{◌∙◌, Ok, ap, changed, command_seen, done_applies, reached_applies, refl, state_of, sym}
use Rattle.spec_machine.proofs.Memory.{done_makes, stretch_level}
use Rattle.spec_machine.proofs.Machines.{machine_sound}
use Rattle.spec_machine.proofs.machine.Machine.take_accepted.Goals as goal

pub apply-requires : goal.apply-requires
apply-requires c =
    let is = sym c.requires ∙ ap Ok c.in-Done.is in
    done_applies (state_of c.args.self.now) c.args.cpu (command_seen c.args.command) _ _ (machine_sound c.args.self.now) is

pub returns-in_default : goal.returns-in_default
returns-in_default c =
    let s = state_of c.args.self.now in
    let is = sym c.requires ∙ ap Ok c.in-Done.is in
    record {
      step = tt;
      only = tt;
      kept = tt;
      err = c.in_default.ensures.err;
      only_tables = done_makes s c.args.cpu (command_seen c.args.command) _ _ is c.in_default.ensures.only;
      only_accepted = rw is refl;
      only_given = (changed s c.in-Done.change, rw is (c.is_ok.ensures.0 c.if-not-is_ok.false, refl));
    }

pub reach-requires : goal.reach-requires
reach-requires c =
    let s = state_of c.args.self.now in
    let is = sym c.requires ∙ ap Ok c.in-Reaches.is in
    record {
      level = stretch_level s c.args.cpu (command_seen c.args.command) _ (machine_sound c.args.self.now) is;
      can = λ top. reached_applies s c.args.cpu (command_seen c.args.command) _ top (machine_sound c.args.self.now) is;
    }

pub returns-in-Reaches : goal.returns-in-Reaches
returns-in-Reaches c =
    let is = sym c.requires ∙ ap Ok c.in-Reaches.is in
    record {
      step = rw is c.reach.ensures.step;
      only = rw is c.reach.ensures.only;
      kept = c.reach.ensures.kept;
      err = tt;
      only_tables = tt;
      only_accepted = tt;
      only_given = tt;
    }
