-- The return that is found has the number of its call.
use Rattle.std.proofs.Common.{◌∙◌, Some, ap, sym}
use Rattle.slicing.proofs.CallLaws.{ReturnFits-found, same_numbers}
use Rattle.slicing.proofs.cut.return_fits.Goals as goal

pub returns-in-Some : goal.returns-in-Some
returns-in-Some c is =
    let places = c.in-Some.places in
    let made = c.in-Some.ensures.some.called in
    ReturnFits-found c.args.history.now.recorded c.well_formed-fact.ensures c.args.count c.args.plan.now c.args.place
    c.in-Returned.cpu c.in-Returned.number places.called made.0 _ made.1 (c.event.ensures ∙ ap Some c.in-Returned.is)
    (sym c.number_at.ensures ∙ same_numbers c.number_at.result c.number_at-in-Some.result (sym c.eq.ensures ∙ is) ∙ c.number_at-in-Some.ensures)
