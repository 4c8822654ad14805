-- What is seen of a command and of a reply.
use Rattle.std.specs.Prelude.{⊤, ◌≤◌, length}
use Rattle.rmm_spec.specs.declared.command.Command.{Command}
use Rattle.rmm_spec.specs.declared.reply.Reply.{Reply}
use Rattle.rmm_spec.specs.declared.reply.Reply.TheVariants as reply
use Rattle.rmi_view.specs.declared.command.CommandRef.{CommandRef}
use Rattle.rmi_view.specs.declared.reply.ReplyRef.{ReplyRef}
use Rattle.rmi_view.specs.declared.reply.ReplyRef.TheVariants as seen

abbrev pub command_seen : CommandRef → Command
command_seen command = record { function = command.function; words = record { items = command.words.now } }

abbrev pub reply_seen : ReplyRef → Reply
reply_seen (seen.Ok words) = reply.Ok (record { items = words.now })
reply_seen (seen.Err status index) = reply.Err status index
reply_seen seen.Misplaced = reply.Misplaced

-- a reply of its own has room for its words
abbrev pub HasFewWords : Reply → Type 0
HasFewWords (reply.Ok words) = length words.items ≤ 10
HasFewWords (reply.Err status index) = ⊤
HasFewWords reply.Misplaced = ⊤
