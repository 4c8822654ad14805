-- The call returns at one place, which is among the first events or isn't.
use Rattle.std.proofs.Common.{arith}
use Rattle.rmm_spec.specs.declared.event.Event.TheVariants.{Returned}
use Rattle.rmi_view.specs.Seen.{reply_seen}
use Rattle.lemmas.proofs.Elements.{slice_get-front}
use Rattle.spec_lemmas.proofs.Calls.{told_at_return}
use Rattle.slicing.proofs.FirstEvents.{unfinished_to}
use Rattle.slicing.proofs.call_at.answer_at.Goals as goal

pub returns-then-place-count : goal.returns-then-place-count
returns-then-place-count c =
    unfinished_to c.args.history.now.recorded c.well_formed-fact.ensures c.args.count c.args.cpu c.args.number c.in_ok-place.place
    (rw c.in_ok-place.was at c.requires.places.returned) c.if-place-count.true

pub returns : goal.returns
returns c =
    let events = c.args.history.now.recorded.events in
    let given = reply_seen c.in-Some.reply in
    slice_get-front c.args.count events c.in_ok-place.place (Returned c.args.cpu c.args.number given) (omega (arith, c.if-place-count.false))
    (told_at_return events c.in_ok-place.place c.args.cpu c.args.number given (rw c.in_ok-place.was at c.requires.places.returned)
    c.in-Some.ensures.some)
