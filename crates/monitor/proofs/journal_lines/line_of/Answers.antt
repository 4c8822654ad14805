use Rattle.monitor.proofs.Common.{sym, ap, ◌∙◌, Commitment}
use Rattle.std.proofs.lemmas.Bool.{iff_false}
use Rattle.rmi_view.specs.Seen.{command_seen, reply_seen}
use Rattle.rmm_spec.specs.declared.line.Line.TheVariants.{Unfinished}
use Rattle.spec_lemmas.proofs.LineOf.{line_for-returned, line_for-unfinished}
use Rattle.monitor.proofs.journal_lines.line_of.Goals as goal

pub returns-then-has_returned-clause-line : goal.returns-then-has_returned-clause-line
returns-then-has_returned-clause-line c =
    let finished = c.has_returned.ensures.0 c.if-has_returned.true in
    let commit : Commitment =
    record { cpu = c.args.entry.mark; number = c.args.number; command = command_seen c.args.entry.command; given = reply_seen c.args.entry.reply } in
    sym (line_for-returned c.args.history.now.recorded.events commit finished.0 finished.1 finished.2)

pub returns-clause-line : goal.returns-clause-line
returns-clause-line c =
    let commit : Commitment =
    record { cpu = c.args.entry.mark; number = c.args.number; command = command_seen c.args.entry.command; given = reply_seen c.args.entry.reply } in
    ap (Unfinished c.args.entry.mark c.args.number) c.to_reply-reply.ensures
    ∙ sym (line_for-unfinished c.args.history.now.recorded.events commit (iff_false c.has_returned.ensures c.if-has_returned.false))
