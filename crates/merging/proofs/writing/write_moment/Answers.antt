use Rattle.merging.proofs.Common.{◌∙◌, ap, stand_seen}
use Rattle.std.proofs.lemmas.Result.{MatchResult-weaker}
use Rattle.rmi_view.specs.Seen.{command_seen, reply_seen}
use Rattle.merging.specs.SeenEvents.{moment_seen}
use Rattle.merging.proofs.CutLaws.{IsCut-call, IsCut-commit, IsCut-return}
use Rattle.merging.proofs.writing.write_moment.Goals as goal

pub returns-in-Call-clause-fault : goal.returns-in-Call-clause-fault
returns-in-Call-clause-fault g c =
    MatchResult-weaker c.write_to_history.result c.write_to_history.ensures.fault (λ _ nothing. nothing)
    (λ fault cut.
    IsCut-call c.args.returns (stand_seen c.args.cpu.now) c.args.slot.cpu (moment_seen c.args.slot.moment) c.as_slice.result.now _ fault
    (c.as_slice.ensures.value ∙ c.put_moment.ensures.line) (command_seen c.in-Call.field-0) (ap moment_seen c.in-Call.is)
    (cut c.args.certificate.now c.requires.certificate))

pub returns-in-Commit-clause-fault : goal.returns-in-Commit-clause-fault
returns-in-Commit-clause-fault g c =
    MatchResult-weaker c.write_to_certificate.result c.write_to_certificate.ensures.fault (λ _ nothing. nothing)
    (λ fault cut.
    IsCut-commit c.args.returns (stand_seen c.args.cpu.now) c.args.slot.cpu (moment_seen c.args.slot.moment) c.as_slice-in-Commit.result.now _ fault
    (c.as_slice-in-Commit.ensures.value ∙ c.put_moment.ensures.line) (reply_seen c.in-Commit.field-0) (ap moment_seen c.in-Commit.is)
    (cut c.args.history.now c.requires.history))

pub returns-in-Return-clause-fault : goal.returns-in-Return-clause-fault
returns-in-Return-clause-fault g c =
    MatchResult-weaker c.write_to_history-in-Return.result c.write_to_history-in-Return.ensures.fault (λ _ nothing. nothing)
    (λ fault cut.
    IsCut-return c.args.returns (stand_seen c.args.cpu.now) c.args.slot.cpu (moment_seen c.args.slot.moment) c.as_slice-in-Return.result.now _ fault
    (c.as_slice-in-Return.ensures.value ∙ c.put_moment.ensures.line) (reply_seen c.in-Return.field-0) (ap moment_seen c.in-Return.is)
    (cut c.args.certificate.now c.requires.certificate))
