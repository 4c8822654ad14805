use Rattle.std.proofs.Common.{rules}
use Rattle.std.proofs.lemmas.Result.{IfOk-weaker, on_err_weaker}
use Rattle.rmm_spec.specs.Text.{parts_of}
use Rattle.lemmas.proofs.ResultLaws.{IsOkAnd-not_Ok}
use Rattle.rmi_view.specs.Seen.{command_seen, reply_seen}
use Rattle.history.proofs.GrammarLaws.{no_event, no_continuation, HasNext-continues}
use Rattle.history.proofs.SpellingLaws.{IsNoEvent-head, IsNoEvent-letter, IsNoEvent-call, IsNoEvent-return, IsEventOf-call, IsEventOf-return}
use Rattle.history.proofs.reading.record_line.Goals as goal

pub returns-in_default-clause-refused : goal.returns-in_default-clause-refused
returns-in_default-clause-refused c = λ _.
    no_event c.args.history.now.recorded (parts_of c.args.line.now)
    (IsNoEvent-head _ _ (rw (c.cpus-cpus.ensures.count, c.config.ensures, c.of-parts.ensures) at c.in_default.ensures.none))

pub returns-in_default-letter-clause-refused : goal.returns-in_default-letter-clause-refused
returns-in_default-letter-clause-refused c = λ _.
    let cut = rw c.of-parts.ensures at c.in-Some.ensures.found in
    no_event c.args.history.now.recorded (parts_of c.args.line.now)
    (IsNoEvent-letter _ _ _ _ _ c.head_from.new.parts cut (search rules) (search rules))

pub returns-in_default-command_from-clause-refused : goal.returns-in_default-command_from-clause-refused
returns-in_default-command_from-clause-refused c = λ _.
    let cut = rw (c.of-parts.ensures, c.in-99.is) at c.in-Some.ensures.found in
    no_event c.args.history.now.recorded (parts_of c.args.line.now)
    (IsNoEvent-call _ _ _ _ c.head_from.new.parts cut
    (λ command is_command is_text. IsOkAnd-not_Ok c.command_from.result _
    (c.command_from.ensures.only command is_command is_text) c.in_default-command_from.not-Ok))

pub returns-in_default-reply_from-clause-refused : goal.returns-in_default-reply_from-clause-refused
returns-in_default-reply_from-clause-refused c = λ _.
    let cut = rw (c.of-parts.ensures, c.in-114.is) at c.in-Some.ensures.found in
    no_event c.args.history.now.recorded (parts_of c.args.line.now)
    (IsNoEvent-return _ _ _ _ c.head_from.new.parts cut
    (λ given is_reply is_text. IsOkAnd-not_Ok c.reply_from.result _
    (c.reply_from.ensures.only given is_reply is_text) c.in_default-reply_from.not-Ok))

pub returns-in-Ok-clause-recorded : goal.returns-in-Ok-clause-recorded
returns-in-Ok-clause-recorded c =
    let cut = rw (c.of-parts.ensures, c.in-99.is) at c.in-Some.ensures.found in
    let below = rw (c.cpus-cpus.ensures.count, c.config.ensures) at c.in-Some.ensures.cpu in
    let is_event =
    IsEventOf-call _ _ _ _ c.head_from.new.parts (command_seen c.in-Ok.command) cut c.in-Ok.ensures.found.1 below c.in-Ok.ensures.found.0 in
    IfOk-weaker c.record.result _ _
    (λ done recorded is_done. record { event = _; is_event = is_event; recorded = recorded is_done }) c.record.ensures.recorded

pub returns-in-Ok-clause-refused : goal.returns-in-Ok-clause-refused
returns-in-Ok-clause-refused c =
    let cut = rw (c.of-parts.ensures, c.in-99.is) at c.in-Some.ensures.found in
    let below = rw (c.cpus-cpus.ensures.count, c.config.ensures) at c.in-Some.ensures.cpu in
    let is_event =
    IsEventOf-call _ _ _ _ c.head_from.new.parts (command_seen c.in-Ok.command) cut c.in-Ok.ensures.found.1 below c.in-Ok.ensures.found.0 in
    IfOk-weaker c.record.result _ _
    (λ done stops is_not. no_continuation c.args.history.now.recorded (parts_of c.args.line.now) _ is_event (stops is_not))
    c.record.ensures.refused

pub returns-in-Ok-clause-no_memory : goal.returns-in-Ok-clause-no_memory
returns-in-Ok-clause-no_memory c =
    let cut = rw (c.of-parts.ensures, c.in-99.is) at c.in-Some.ensures.found in
    let below = rw (c.cpus-cpus.ensures.count, c.config.ensures) at c.in-Some.ensures.cpu in
    let is_event =
    IsEventOf-call _ _ _ _ c.head_from.new.parts (command_seen c.in-Ok.command) cut c.in-Ok.ensures.found.1 below c.in-Ok.ensures.found.0 in
    on_err_weaker c.record.result
    (HasNext-continues c.args.history.now.recorded (parts_of c.args.line.now) _ is_event c.requires.room) c.record.ensures.no_memory

pub returns-in-Ok-reply_from-clause-recorded : goal.returns-in-Ok-reply_from-clause-recorded
returns-in-Ok-reply_from-clause-recorded c =
    let cut = rw (c.of-parts.ensures, c.in-114.is) at c.in-Some.ensures.found in
    let below = rw (c.cpus-cpus.ensures.count, c.config.ensures) at c.in-Some.ensures.cpu in
    let is_event = IsEventOf-return _ _ _ _ c.head_from.new.parts
    (reply_seen c.in-Ok-reply_from.reply) cut c.in-Ok-reply_from.ensures.found.1 below c.in-Ok-reply_from.ensures.found.0 in
    IfOk-weaker c.record-in-114.result _ _ (λ done recorded is_done. record { event = _; is_event = is_event; recorded = recorded is_done })
    c.record-in-114.ensures.recorded

pub returns-in-Ok-reply_from-clause-refused : goal.returns-in-Ok-reply_from-clause-refused
returns-in-Ok-reply_from-clause-refused c =
    let cut = rw (c.of-parts.ensures, c.in-114.is) at c.in-Some.ensures.found in
    let below = rw (c.cpus-cpus.ensures.count, c.config.ensures) at c.in-Some.ensures.cpu in
    let is_event = IsEventOf-return _ _ _ _ c.head_from.new.parts
    (reply_seen c.in-Ok-reply_from.reply) cut c.in-Ok-reply_from.ensures.found.1 below c.in-Ok-reply_from.ensures.found.0 in
    IfOk-weaker c.record-in-114.result _ _
    (λ done stops is_not. no_continuation c.args.history.now.recorded (parts_of c.args.line.now) _ is_event (stops is_not))
    c.record-in-114.ensures.refused

pub returns-in-Ok-reply_from-clause-no_memory : goal.returns-in-Ok-reply_from-clause-no_memory
returns-in-Ok-reply_from-clause-no_memory c =
    let cut = rw (c.of-parts.ensures, c.in-114.is) at c.in-Some.ensures.found in
    let below = rw (c.cpus-cpus.ensures.count, c.config.ensures) at c.in-Some.ensures.cpu in
    let is_event = IsEventOf-return _ _ _ _ c.head_from.new.parts
    (reply_seen c.in-Ok-reply_from.reply) cut c.in-Ok-reply_from.ensures.found.1 below c.in-Ok-reply_from.ensures.found.0 in
    on_err_weaker c.record-in-114.result (HasNext-continues c.args.history.now.recorded (parts_of c.args.line.now) _ is_event c.requires.room)
    c.record-in-114.ensures.no_memory
