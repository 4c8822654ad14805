-- What the exit is answered.
use Rattle.std.proofs.Common.{ap, ◌∙◌}
use Rattle.rmm_spec.specs.Lookup.{is_inside, rec_inside}
use Rattle.spec_machine.specs.View.{state_of}
use Rattle.reasons.specs.Tests.{exiting}
use Rattle.reasons.proofs.Exiting.{exiting-outcome, inside-exiting}
use Rattle.reasons.proofs.place.rec_inside.Goals as goal

pub returns : goal.returns
returns c =
    let s = state_of c.args.machine.now in
    let told = inside-exiting c.exiting_rec.result (is_inside s c.args.cpu) (rec_inside s c.args.cpu)
    (c.exiting_rec.ensures ∙ ap exiting c.exit_answer.ensures ∙ exiting-outcome s c.args.cpu) in record { is = told.0; at = told.1 }
