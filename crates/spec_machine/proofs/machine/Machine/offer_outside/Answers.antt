use Rattle.spec_machine.proofs.Common.{◌∙◌, CarriesOut, ap, outcome, refl, reply_seen, state_of, subst, sym}
use Rattle.std.proofs.lemmas.Bool.{false≢true}
use Rattle.spec_machine.proofs.Memory.{owner_tagged}
use Rattle.command_rows.proofs.Outcomes.{owned, outcome-outside}
use Rattle.spec_machine.proofs.Machines.{machine_sound}
use Rattle.spec_machine.proofs.machine.Machine.offer_outside.Goals as goal

pub answer_outside-requires : goal.answer_outside-requires
answer_outside-requires c =
    let m = c.args.self.now in
    record { owned = owned (state_of m) c.args.call.now (owner_tagged (state_of m) (machine_sound m)) }

pub take_accepted-requires : goal.take_accepted-requires
take_accepted-requires c =
    let s = state_of c.args.self.now in
    sym c.in-Ok.is ∙ c.answer_outside.ensures
    ∙ outcome-outside s c.args.cpu c.args.call.now c.requires.outside ∙ ap (outcome s c.args.cpu) c.requires.call

pub returns-in-Err : goal.returns-in-Err
returns-in-Err c =
    let s = state_of c.args.self.now in
    let is = sym c.in-Err.is ∙ c.answer_outside.ensures
    ∙ outcome-outside s c.args.cpu c.args.call.now c.requires.outside ∙ ap (outcome s c.args.cpu) c.requires.call in
    record {
      step = λ holds. subst (λ answer. CarriesOut answer s (reply_seen c.args.reply) s) is (c.is_refusal.ensures.0 holds, refl);
      only = λ fails next carries.
          false≢true (sym fails ∙ c.is_refusal.ensures.1 (subst (λ answer. CarriesOut answer s (reply_seen c.args.reply) next) (sym is) carries).0);
      kept = λ _. refl;
      err = tt;
      only_tables = tt;
      only_accepted = tt;
      only_given = tt;
    }
