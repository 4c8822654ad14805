-- The reply is denied by facts that are held where its call is made.
use Rattle.std.proofs.Common.{refl, subst}
use Rattle.rmi_view.specs.Seen.{reply_seen}
use Rattle.slicing.specs.Calls.{events_to}
use Rattle.verdict_laws.specs.HeldFacts.{IsDenied}
use Rattle.slicing.proofs.denied.are_denying.Goals as goal

pub returns-then-deny_last : goal.returns-then-deny_last
returns-then-deny_last c held =
    let last = c.args.last.now in
    let recorded = c.args.history.now.recorded in
    let is = c.requires in
    let events = events_to c.args.count recorded.events in
    let reply = reply_seen last.reply in record {
      facts = c.args.facts.now;
      called = last.called;
      cpu = last.cpu;
      number = last.number;
      command = is.command;
      is_called = is.is_called;
      returned = is.returned;
      given = reply;
      is_returned = is.is_returned;
      are_held = c.are_held.ensures held;
      denied =
          subst (λ called. IsDenied recorded.config.granules events c.args.facts.now last.cpu last.number called reply)
          is.call (c.if-deny_last.ensures refl);
    }
