use Rattle.spec_machine.proofs.Common.{◌∙◌, Rd, RecRecord, ap, has_tag, is_some, rec_inside, state_of, sym}
use Rattle.std.proofs.lemmas.Bool.{false≢true}
use Rattle.rmm_laws.proofs.Applies.{inside_running}
use Rattle.rec_steps.specs.Held.{IsHeld}
use Rattle.rec_steps.proofs.Steps.{rec_at-held}
use Rattle.spec_machine.proofs.Machines.{machine_sound}
use Rattle.spec_machine.proofs.machine.Machine.answer_here.Goals as goal

pub unreachable-requires : goal.unreachable-requires
unreachable-requires c =
    let m = c.args.self.now in
    let s = state_of m in
    let sound = machine_sound m in
    let running = inside_running s c.args.cpu sound c.requires.inside in
    let owner = c.owner-rd.ensures ∙ ap (λ (r : RecRecord). r.owner) (sym (rec_at-held s (rec_inside s c.args.cpu) c.args.rec.now c.requires.held)) in
    false≢true (ap is_some c.in_default.ensures ∙ sound.realms.tagged _ ∙ ap (λ a. has_tag s a Rd) owner ∙ running.owner)

pub returns : goal.returns
returns c =
    let a = c.args in
    let s = state_of a.self.now in
    let held : IsHeld s (rec_inside s a.cpu) c.in-Some.realm.now a.rec.now = record {
      has_rec = c.requires.held;
      has_realm = ap s.realm (sym c.owner-rd.ensures) ∙ sym c.in-Some.ensures;
    } in
    c.answer_inside.ensures.answer s a.cpu c.requires.inside held c.ripas_read-ripas.ensures.read
