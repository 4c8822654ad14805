-- The machine's answer to a line that is due.
use Rattle.std.proofs.Common.{ℕ, subst, sym}
use Rattle.std.proofs.lemmas.Option.{slice_get_within}
use Rattle.std.proofs.lemmas.Result.{err_from_is_err_and}
use Rattle.rmm_spec.specs.declared.event.Event.TheVariants.{Called}
use Rattle.rmm_spec.specs.Step.{Step}
use Rattle.spec_machine.specs.View.{state_of}
use Rattle.rmi_view.specs.Seen.{command_seen, reply_seen}
use Rattle.checker.proofs.Judging.{IsReady-from_due, IsRefusedMemory-due, Progress-line, FailsBy-line, called_within}
use Rattle.checker.proofs.replay.Replay.take_reply.Goals as goal

pub command_at-requires : goal.command_at-requires
command_at-requires c =
    let made = c.requires.is_called in
    slice_get_within c.args.history.now.recorded.events c.args.called (Called c.args.cpu made.0 made.1) made.2

pub commit-requires : goal.commit-requires
commit-requires c =
    let made = c.requires.is_called in
    called_within c.args.history.now.recorded c.args.self.now.named.items c.args.called c.args.cpu made.0 made.1 c.requires.counted made.2

pub returns-then-given-clause-judged : goal.returns-then-given-clause-judged
returns-then-given-clause-judged c = λ line due before is_replay.
    let old = c.args.self.now in
    let ready = IsReady-from_due old c.args.history.now.recorded line c.args.cpu c.args.called
    (reply_seen c.args.reply) due before is_replay (command_seen c.in-Some.command) c.in-Some.ensures.some in
    let commits = rw c.if-given.true at c.in_ok-given.ensures.given in
    Progress-line c.args.history.now.recorded before old.named.items old.latest (state_of old.machine) is_replay
    line c.args.called (command_seen c.in-Some.command) (reply_seen c.args.reply) ready _ _ _
    (subst (λ (x : ℕ). Step (state_of old.machine) x (command_seen c.in-Some.command) (reply_seen c.args.reply) (state_of c.commit.new.self.machine))
    (sym due.of_cpu) commits.step) commits.named commits.latest

pub returns-else-given-clause-judged : goal.returns-else-given-clause-judged
returns-else-given-clause-judged c = λ line due before is_replay.
    let old = c.args.self.now in
    let ready = IsReady-from_due old c.args.history.now.recorded line c.args.cpu c.args.called
    (reply_seen c.args.reply) due before is_replay (command_seen c.in-Some.command) c.in-Some.ensures.some in
    let refuses = rw c.if-given.false at c.in_ok-given.ensures.given in
    FailsBy-line c.args.history.now.recorded before old.named.items old.latest (state_of old.machine) is_replay
    line c.args.called (command_seen c.in-Some.command) (reply_seen c.args.reply) ready
    (λ next step. refuses next
    (subst (λ (x : ℕ). Step (state_of old.machine) x (command_seen c.in-Some.command) (reply_seen c.args.reply) next) due.of_cpu step))

pub returns-in_err-given-clause-refused : goal.returns-in_err-given-clause-refused
returns-in_err-given-clause-refused c =
    let p = err_from_is_err_and c.from_residual.result c.from_residual.ensures.1 in
    rw p.1 (λ line due.
    IsRefusedMemory-due c.args.self.now c.args.history.now.recorded line c.args.cpu c.args.called
    (reply_seen c.args.reply) due (command_seen c.in-Some.command) c.in-Some.ensures.some
    c.in_err-given.ensures.refused)
