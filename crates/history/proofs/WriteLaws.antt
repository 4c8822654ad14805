-- The lines of a history, as a writer puts them.
use Rattle.std.proofs.Common.{◌≡◌, ℕ, ◌∷◌, ◌++◌}
use Rattle.rmm_spec.specs.CommandText.{command_parts, reply_parts, command_text, reply_text}
use Rattle.rmm_spec.specs.HistoryText.{event_parts}
use Rattle.rmm_spec.specs.Text.{line_text}
use Rattle.rmm_spec.specs.declared.command.Command.{Command}
use Rattle.rmm_spec.specs.declared.event.Event.TheVariants.{Called, Returned}
use Rattle.rmm_spec.specs.declared.reply.Reply.{Reply}
use Rattle.spec_lemmas.proofs.Texts.{command_parts-some, reply_parts-some}
use Rattle.rmi_codec.specs.Head.{head_text}
use Rattle.rmi_codec.proofs.LineTexts.{line_text-head}

pub event_text-called : (cpu number : ℕ) (command : Command)
    → line_text (event_parts (Called cpu number command)) ≡ head_text 99 cpu number ++ 32 ∷ command_text command
unfolding event_parts
event_text-called cpu number command = line_text-head 99 cpu number (command_parts command) (command_parts-some command)

pub event_text-returned : (cpu number : ℕ) (given : Reply)
    → line_text (event_parts (Returned cpu number given)) ≡ head_text 114 cpu number ++ 32 ∷ reply_text given
unfolding event_parts
event_text-returned cpu number given = line_text-head 114 cpu number (reply_parts given) (reply_parts-some given)

pub ruleset event_texts = (event_text-called, event_text-returned)
