-- The machine's answer is a step.
use Rattle.finding.proofs.Common.{◌∙◌, ap, state_of, sym}
use Rattle.std.proofs.Common.{Ok}
use Rattle.rmm_spec.specs.declared.accepted.Accepted.{Accepted}
use Rattle.rmm_spec.specs.declared.command.Command.{Command}
use Rattle.rmm_spec.specs.Call.{call_of}
use Rattle.rmm_spec.specs.Step.{outcome}
use Rattle.rmi_view.specs.Seen.{command_seen, reply_seen}
use Rattle.finding.proofs.SettledLaws.{IsGiven-here}
use Rattle.finding.proofs.settled.is_given.Goals as goal

pub returns-in-Ok-Done : goal.returns-in-Ok-Done
returns-in-Ok-Done c = λ same.
    let state = state_of c.args.begun.now.machine in
    let choice = c.args.choice in
    let command = command_seen c.in-Some-command_at.command in
    let out = ap (λ (m : Command). outcome state choice.cpu (call_of m)) (sym c.to_command.ensures)
    ∙ (sym c.outcome.ensures ∙ (c.in-Ok-Done.is ∙ ap (λ (a : Accepted). Ok a) c.in-Ok-Done.field-0-is)) in
    IsGiven-here c.args.history.now.recorded state choice c.in-Some.returned command (reply_seen c.in-Some-reply_at.reply)
    c.requires.places c.in-Some.is c.in-Some-command_at.ensures.some c.in-Some-reply_at.ensures.some
    (c.comes_at_once.ensures c.if-not-comes_at_once.false) c.in-Ok-Done.words c.in-Ok-Done.field-0-1 out
    (c.is.ensures.0 same)
