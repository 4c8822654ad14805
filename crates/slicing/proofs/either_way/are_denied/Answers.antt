-- Both calls are made, the second returned, and a reply is denied either way.
use Rattle.std.proofs.Common.{refl, subst}
use Rattle.rmi_view.specs.Seen.{reply_seen}
use Rattle.rmm_spec.specs.Linearization.{IsCalled}
use Rattle.slicing.specs.Calls.{events_to}
use Rattle.slicing.proofs.CallLaws.{made_at}
use Rattle.slicing.proofs.either_way.are_denied.Goals as goal

pub returns-then-are_denying : goal.returns-then-are_denying
returns-then-are_denying c otherwise =
    let events = events_to c.args.count c.args.history.now.recorded.events in
    let call = c.in-Some.call in
    let other = c.in-Some-return_at.other in
    let is = c.in-Some-return_at.ensures.is in record {
      turn = c.args.turn;
      is_made = (call.cpu, call.number, c.in-Some.ensures.some.1.0, made_at events c.args.turn.first call c.in-Some.ensures.some);
      is_other = (
        other.cpu,
        other.number,
        is.command,
        subst (λ p. IsCalled events p other.cpu other.number is.command) c.in-Some-return_at.ensures.place is.is_called,
      );
      is_finished = (is.returned, reply_seen other.reply, is.is_returned);
      apart = λ same. c.if-turn.false same;
      so = c.if-are_denying.ensures refl;
      otherwise = c.is_denied_otherwise.ensures otherwise;
    }
