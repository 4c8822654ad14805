use Rattle.spec_machine.proofs.Common.{◌∙◌, ◌≡◌, ap, false, is_inside, outcome, rec_inside, state_of, sym, true}
use Rattle.rmm_laws.proofs.Applies.{inside_running}
use Rattle.spec_machine.proofs.Memory.{owner_tagged}
use Rattle.command_rows.specs.Answers.{inside_answer}
use Rattle.command_rows.proofs.Outcomes.{inside, owned, outcome-inside, outcome-outside}
use Rattle.spec_machine.proofs.Machines.{machine_sound}
use Rattle.spec_machine.proofs.machine.Machine.outcome_seen.Goals as goal

pub answer_outside-requires : goal.answer_outside-requires
answer_outside-requires c =
    let m = c.args.self.now in
    record { owned = owned (state_of m) c.call-call.result (owner_tagged (state_of m) (machine_sound m)) }

pub answer_inside-requires : goal.answer_inside-requires
answer_inside-requires c =
    let m = c.args.self.now in
    let runs : is_inside (state_of m) c.args.cpu ≡ true = sym c.in-Some.ensures.is in
    let running = inside_running (state_of m) c.args.cpu (machine_sound m) runs in
    record {
      inside = rw (c.address.ensures, c.in-Some.ensures.at)
          (inside (state_of m) (rec_inside (state_of m) c.args.cpu) c.call-call.result running.tag running.owner);
    }

pub returns-in-None : goal.returns-in-None
returns-in-None c =
    let s = state_of c.args.self.now in
    let outside : is_inside s c.args.cpu ≡ false = sym c.in-None.ensures.is in
    c.answer_outside.ensures ∙ outcome-outside s c.args.cpu c.call-call.result outside ∙ ap (outcome s c.args.cpu) c.call-call.ensures

pub returns-in-Some : goal.returns-in-Some
returns-in-Some c =
    let s = state_of c.args.self.now in
    let runs : is_inside s c.args.cpu ≡ true = sym c.in-Some.ensures.is in
    c.answer_inside.ensures ∙ ap (λ a. inside_answer s a c.call-call.result) (c.address.ensures ∙ c.in-Some.ensures.at)
    ∙ outcome-inside s c.args.cpu c.call-call.result runs ∙ ap (outcome s c.args.cpu) c.call-call.ensures
