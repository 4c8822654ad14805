use Rattle.rmi_view.specs.Seen.{command_seen}
use Rattle.spec_lemmas.proofs.Calls.{told_at_call}
use Rattle.finding.proofs.OfferLaws.{called_place}
use Rattle.finding.proofs.attempt.next_attempt.Goals as goal

pub command_at-requires : goal.command_at-requires
command_at-requires c =
    called_place c.args.history.now.recorded.events c.args.choice.cpu c.args.choice.number c.args.choice.places c.requires.places

pub returns-clause-tried : goal.returns-clause-tried
returns-clause-tried c = λ lines may.
    let history = c.args.history.now.recorded in
    let choice = c.args.choice in
    c.claim.ensures.tried history lines _ (command_seen c.in-Some.command) (record {
      pending = c.requires.pending;
      is_called = told_at_call history.events choice.places.called choice.cpu choice.number (command_seen c.in-Some.command) c.requires.places.called
          c.in-Some.ensures.some;
      answered = rw c.to_command-command.ensures at c.outcome.ensures;
    }) may
