use Rattle.rmm_spec.specs.declared.event.Event.TheVariants.{Returned}
use Rattle.rmm_spec.specs.declared.reply.Reply.TheVariants as reply
use Rattle.history.proofs.FrontLaws.{history_text-front}
use Rattle.history.proofs.WriteLaws.{event_text-returned}
use Rattle.history.proofs.reading.record_refusal.Goals as goal

pub returns-clause-recorded : goal.returns-clause-recorded
returns-clause-recorded c =
    history_text-front c.record_to.result c.args.history.now.recorded c.record_to.new.history.recorded
    (Returned c.args.cpu c.args.number (reply.Err c.in_ok-status.status c.in_ok-status.index))
    c.args.text.now c.args.at c.in_ok-status.end _ _ c.requires.head
    c.in_ok-status.ensures.found (event_text-returned _ _ _) c.record_to.ensures.recorded c.record_to.ensures.place
