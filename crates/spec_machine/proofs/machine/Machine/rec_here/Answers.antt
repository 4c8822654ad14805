use Rattle.spec_machine.proofs.Common.{◌∙◌, Rec, ap, has_tag, is_some, state_of, sym}
use Rattle.std.proofs.lemmas.Bool.{false≢true}
use Rattle.rmm_laws.proofs.Applies.{inside_running}
use Rattle.spec_machine.proofs.Machines.{machine_sound}
use Rattle.spec_machine.proofs.machine.Machine.rec_here.Goals as goal

pub unreachable-requires : goal.unreachable-requires
unreachable-requires c =
    let m = c.args.self.now in
    let s = state_of m in
    let sound = machine_sound m in
    let running = inside_running s c.args.cpu sound c.requires.inside in
    false≢true (ap is_some c.in_default.ensures ∙ sound.recs.tagged _ ∙ ap (λ a. has_tag s a Rec) (c.address.ensures ∙ c.requires.at) ∙ running.tag)

pub returns : goal.returns
returns c = ap (state_of c.args.self.now).rec (sym (c.address.ensures ∙ c.requires.at)) ∙ sym c.in-Some.ensures
