use Rattle.finding.proofs.Common.{HasOnePlaces-from_history, state_of}
use Rattle.rmi_view.specs.Seen.{command_seen, reply_seen}
use Rattle.finding.proofs.OfferLaws.{IsRefused-from_offer}
use Rattle.finding.proofs.offering.is_line_refused.Goals as goal

pub returns : goal.returns
returns c = λ refused.
    let history = c.args.history.now.recorded in
    IsRefused-from_offer history.events (HasOnePlaces-from_history history c.well_formed-fact.ensures)
    c.args.line.now c.args.choice c.requires.places c.requires.of_cpu
    c.requires.numbered (command_seen c.in-Some.command) c.in-Some.ensures.some (reply_seen c.reply_of-reply.result) c.reply_of-reply.ensures
    (state_of c.args.machine.now) (c.is_refused.ensures.refused refused)
