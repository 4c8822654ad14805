-- Histories in which no measurement is read. This project's own.
use Rattle.std.specs.Prelude.{◌≡◌, ℕ, Bool, true, false, nat_le, if◌then◌else◌, List, [], ◌∷◌, length, slice_get, slice_index, replicate, Some}
use Rattle.rmm_spec.specs.declared.command.Command.{Command}
use Rattle.rmm_spec.specs.declared.event.Event.{Event}
use Rattle.rmm_spec.specs.declared.event.Event.TheVariants.{Called, Returned}
use Rattle.rmm_spec.specs.declared.function_id.FunctionId.{FunctionId}
use Rattle.rmm_spec.specs.declared.function_id.FunctionId.TheVariants as function
use Rattle.rmm_spec.specs.declared.reply.Reply.{Reply}
use Rattle.rmm_spec.specs.declared.reply.Reply.TheVariants as reply
use Rattle.rmm_spec.specs.HistoryText.{History}
use Rattle.rmm_spec.specs.Linearization.{IsCalled}
use Rattle.rmm_spec.specs.Rows.{ok}
pub use Rattle.spec_machine.specs.Unmeasured.{unmeasured, unmeasured_realm}

-- ---- commands and replies

abbrev pub is_reading_function : FunctionId → Bool
is_reading_function function.MeasurementRead = true
is_reading_function _ = false

-- whether the command asks for a measurement
abbrev pub is_reading : Command → Bool
is_reading command = is_reading_function command.function

-- the extension that is given wherever the reading of an index is: of a register that there is, or of none
abbrev pub extension_for : ℕ → Command
extension_for index = record {
  function = function.MeasurementExtend;
  words = record { items = (if nat_le index 4 then 1 else index) ∷ 1 ∷ replicate 8 0 };
}

-- the command itself, or what extends a measurement where it reads one
abbrev pub unread_command : Command → Command
unread_command command = if is_reading command then extension_for (slice_index command.words.items 0) else command

-- what is replied to that
abbrev pub unread_reply : Command → Reply → Reply
unread_reply command (reply.Ok words) = if is_reading command then ok [] else reply.Ok words
unread_reply command given = given

-- ---- histories

-- the event, with another command and reply where its call reads a measurement
abbrev pub IsUnreadEvent : List Event → Event → Event → Type 0
IsUnreadEvent events (Called cpu number command) unread = unread ≡ Called cpu number (unread_command command)
IsUnreadEvent events (Returned cpu number given) unread =
    (called : ℕ) × (command : Command) × IsCalled events called cpu number command × (unread ≡ Returned cpu number (unread_reply command given))

-- the history with each reading of a measurement as an extension of one
pub record IsUnread (history unread : History) : Type 0 where
  pub config : unread.config ≡ history.config
  pub len : length unread.events ≡ length history.events
  pub each : (place : ℕ) (event other : Event) → slice_get history.events place ≡ Some event → slice_get unread.events place ≡ Some other
      → IsUnreadEvent history.events event other

-- no call asks for a measurement
abbrev pub ReadsNothing : List Event → Type 0
ReadsNothing events = (place cpu number : ℕ) (command : Command) → IsCalled events place cpu number command → is_reading command ≡ false

-- whether the command extends a measurement
abbrev pub is_extending_function : FunctionId → Bool
is_extending_function function.MeasurementExtend = true
is_extending_function _ = false

abbrev pub is_extending : Command → Bool
is_extending command = is_extending_function command.function
