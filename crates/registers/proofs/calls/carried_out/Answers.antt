-- A call of a function that isn't followed does nothing.
use Rattle.std.proofs.Common.{sym, ◌∙◌}
use Rattle.rmi_view.specs.Seen.{reply_seen}
use Rattle.registers.proofs.CallLaws.{DoesNothing-unfollowed}
use Rattle.registers.proofs.calls.carried_out.Goals as goal

pub returns-then-not-is_followed-clause-none : goal.returns-then-not-is_followed-clause-none
returns-then-not-is_followed-clause-none c =
    let command = c.args.command in
    DoesNothing-unfollowed command.function command.words.now (reply_seen c.args.reply) (sym c.is_followed.ensures ∙ c.if-not-is_followed.true)
