-- Commands and replies as the parts of a line.
use Rattle.std.specs.Prelude.{◌≡◌, ⊤, ℕ, ◌^◌, ◌<◌, ◌≤◌, List, [], ◌∷◌, map, length, codes}
use Rattle.std.specs.List.{AllByRecursion}
use Rattle.rmm_spec.specs.declared.command.Command.{Command}
use Rattle.rmm_spec.specs.declared.reply.Reply.{Reply}
use Rattle.rmm_spec.specs.declared.reply.Reply.TheVariants as reply
use Rattle.rmm_spec.specs.Function.{number_of, word_count}
use Rattle.rmm_spec.specs.Text.{decimal, word, fixed_hex, line_text}

-- numbers that 64 bits hold
abbrev pub AreWords : List ℕ → Type 0
AreWords words = AllByRecursion (λ w. w < 2 ^ 64) words

-- what has a text: a function with as many words as it takes
pub record IsCommand (command : Command) : Type 0 where
  pub counted : length command.words.items ≡ word_count command.function
  pub words : AreWords command.words.items

abbrev pub IsReply : Reply → Type 0
IsReply (reply.Ok words) = (length words.items ≤ 10) × AreWords words.items
IsReply (reply.Err status index) = (status < 256) × (index < 256)
IsReply reply.Misplaced = ⊤

-- the number in eight hex digits, then the words
unfoldable pub command_parts : Command → List (List ℕ)
command_parts command = fixed_hex 8 (number_of command.function) ∷ map word command.words.items

unfoldable pub reply_parts : Reply → List (List ℕ)
reply_parts (reply.Ok words) = codes "ok" ∷ map word words.items
reply_parts (reply.Err status index) = codes "err" ∷ decimal status ∷ decimal index ∷ []
reply_parts reply.Misplaced = codes "misplaced" ∷ []

abbrev pub command_text : Command → List ℕ
command_text command = line_text (command_parts command)

abbrev pub reply_text : Reply → List ℕ
reply_text given = line_text (reply_parts given)
