-- Moments whose addresses have names.
use Rattle.std.specs.Prelude.{ℕ, List, [], Option, Some, None, slice_index_or}
use Rattle.rmm_spec.specs.Cell.{put}
use Rattle.rmm_spec.specs.declared.command.Command.{Command}
use Rattle.rmm_spec.specs.declared.function_id.FunctionId.{FunctionId}
use Rattle.rmm_spec.specs.declared.reply.Reply.{Reply}
use Rattle.rmm_spec.specs.declared.reply.Reply.TheVariants as reply
use Rattle.merging.specs.Events.{Moment, Call, Commit, Return}
use Rattle.merging.specs.Table.{Happened}
use Rattle.merging.specs.Roles.{command_roles, answer_roles}
use Rattle.merging.specs.Names.{addresses_among, called_words}
use Rattle.merging.specs.declared.lasts.Lasts.{Lasts}

-- ---- the function of each CPU's last call, if it has made one

abbrev pub function_after : Option FunctionId → Moment → Option FunctionId
function_after last (Call command) = Some command.function
function_after last (Commit given) = last
function_after last (Return given) = last

abbrev pub lasts_with : (ℕ → Option FunctionId) → Happened → ℕ → Option FunctionId
lasts_with lasts slot = put lasts slot.cpu (function_after (lasts slot.cpu) slot.moment)

abbrev pub no_lasts : ℕ → Option FunctionId
no_lasts cpu = None

abbrev pub lasts_in : Lasts → ℕ → Option FunctionId
lasts_in lasts cpu = slice_index_or lasts.functions cpu None

-- ---- the addresses of a moment, on a CPU whose last call was of that function

abbrev pub reply_addresses : ℕ → Option FunctionId → Reply → List ℕ
reply_addresses memory last (reply.Ok words) = addresses_among memory (answer_roles last words.items) 0 words.items
reply_addresses memory last (reply.Err status index) = []
reply_addresses memory last reply.Misplaced = []

abbrev pub moment_addresses : ℕ → Option FunctionId → Moment → List ℕ
moment_addresses memory last (Call command) = addresses_among memory (command_roles command.function) 0 command.words.items
moment_addresses memory last (Commit given) = reply_addresses memory last given
moment_addresses memory last (Return given) = reply_addresses memory last given

-- ---- a moment, renamed

abbrev pub renamed_reply : List ℕ → ℕ → Option FunctionId → Reply → Reply
renamed_reply names granules last (reply.Ok words) =
    reply.Ok (record { items = called_words names granules (answer_roles last words.items) 0 words.items })
renamed_reply names granules last (reply.Err status index) = reply.Err status index
renamed_reply names granules last reply.Misplaced = reply.Misplaced

abbrev pub renamed_command : List ℕ → ℕ → Command → Command
renamed_command names granules command = record {
  function = command.function;
  words = record { items = called_words names granules (command_roles command.function) 0 command.words.items };
}

abbrev pub renamed_moment : List ℕ → ℕ → Option FunctionId → Moment → Moment
renamed_moment names granules last (Call command) = Call (renamed_command names granules command)
renamed_moment names granules last (Commit given) = Commit (renamed_reply names granules last given)
renamed_moment names granules last (Return given) = Return (renamed_reply names granules last given)

abbrev pub renamed_slot : List ℕ → ℕ → Option FunctionId → Happened → Happened
renamed_slot names granules last slot =
    record { line = slot.line; cpu = slot.cpu; moment = renamed_moment names granules last slot.moment }
