-- The call is made at one place.
use Rattle.std.proofs.Common.{arith, ltb-false}
use Rattle.spec_lemmas.proofs.Places.{one_call_place}
use Rattle.slicing.proofs.early.is_made_before.Goals as goal

pub returns-in-Some : goal.returns-in-Some
returns-in-Some c late called command is_called =
    let places = c.in-Some.places in
    let found = c.in-Some.ensures.some.called in
    let at = one_call_place c.args.cpu c.args.number c.args.history.now.recorded.events places.called called found.0 command
    (c.well_formed-fact.ensures.records c.args.cpu) found.1 is_called in
    omega (arith, at, ltb-false places.called c.args.place late)
