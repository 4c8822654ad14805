-- The call is carried out, and moves its CPU.
use Rattle.std.proofs.Common.{ap, sym}
use Rattle.rmi_view.specs.Seen.{reply_seen}
use Rattle.rmm_spec.specs.Ownership.{is_accepted}
use Rattle.slicing.specs.Calls.{events_to}
use Rattle.slicing.proofs.StandingLaws.{StandsBefore-moved}
use Rattle.slicing.proofs.standing.moved_to.Goals as goal

pub returns-in-Ok : goal.returns-in-Ok
returns-in-Ok c =
    let a = c.args in
    let call = c.in_ok-call.call in
    let answer = c.in_ok-call-2.field-0 in
    rw c.stands_after.ensures
    (StandsBefore-moved (events_to a.count a.history.now.recorded.events) a.cpu a.number call answer c.in_ok-call.ensures c.in_ok-call-2.was
    (ap (λ r. is_accepted (reply_seen r)) c.in-Ok.is) (sym c.if-not-moves.ensures))
