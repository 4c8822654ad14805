use Rattle.spec_machine.proofs.Common.{◌∙◌, ◌≡◌, Change, Ok, ap, command_seen, done, done_applies, outcome, rec_inside, state_of, sym, ℕ}
use Rattle.rec_steps.specs.Answers.{answer_at, change_at}
use Rattle.spec_machine.proofs.Machines.{machine_sound}
use Rattle.spec_machine.proofs.machine.Machine.step_inside.Goals as goal

pub update-requires : goal.update-requires
update-requires c =
    let a = c.args in
    let m = a.self.now in
    let s = state_of m in
    let step = c.in-Ok.step in
    let change : ℕ → ℕ → Change = λ rd rec. change_at rd rec step.realm step.rec in
    let made : change c.rec_here-rec.result.now.owner (rec_inside s a.cpu) ≡ change c.owner-rd.result c.address.result =
    λ i. change (sym c.owner-rd.ensures i) (sym (c.address.ensures ∙ c.requires.at) i) in
    let is = ap (outcome s a.cpu) (sym c.requires.call) ∙ sym c.answer_here-answer.ensures
    ∙ ap (answer_at c.rec_here-rec.result.now.owner (rec_inside s a.cpu)) c.in-Ok.is
    ∙ ap (λ (change : Change). Ok (done step.words.items change)) made in
    done_applies s a.cpu (command_seen a.command) _ _ (machine_sound m) is
