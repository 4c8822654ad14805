-- What a table says of a text, and a fault.
use Rattle.std.specs.Prelude.{◌≡◌, ℕ, ◌+◌, ◌<◌, List, [], ◌∷◌, ◌++◌, length, slice_get, Some}
use Rattle.rmm_spec.specs.Text.{IsBadLine}
use Rattle.merging.specs.Events.{Recorded, Recording, IsRecording, IsRecordingText, InRecordings, recording_text}
use Rattle.merging.specs.Table.{Table, ArePlaced}
use Rattle.merging.specs.declared.event_fault.EventsFault.{EventsFault}
use Rattle.merging.specs.declared.event_fault.EventsFault.TheVariants.{BadLine, StampTwice, NoMemory}

-- the table has the events of the text, each at its stamp
pub record IsTableOf (text : List ℕ) (table : Table) : Type 0 where
  pub events : List Recorded
  pub is_recording : IsRecordingText text (record { granules = table.granules; cpus = table.cpus; events = events })
  pub counted : table.count ≡ length events
  pub are_placed : ArePlaced events table.slots

-- the text begins with the lines of the recording
pub record BeginsWith (text : List ℕ) (recording : Recording) : Type 0 where
  pub more : List ℕ
  pub is_recording : IsRecording recording
  pub is_text : text ≡ recording_text recording ++ more

-- the event of that line has the stamp of one before it
pub record RepeatsStamp (text : List ℕ) (line : ℕ) : Type 0 where
  pub granules : ℕ
  pub cpus : ℕ
  pub before : List Recorded
  pub event : Recorded
  pub begins : BeginsWith text (record { granules = granules; cpus = cpus; events = before ++ event ∷ [] })
  pub is_line : line ≡ length before + 2
  pub place : ℕ
  pub other : Recorded
  pub is_other : slice_get before place ≡ Some other
  pub same_stamp : other.stamp ≡ event.stamp

-- of a reader: a bad line is the first one, and memory was refused for an event that was read
abbrev pub IsFaultOf : List ℕ → EventsFault → Type 0
IsFaultOf text (BadLine line) = IsBadLine InRecordings text line
IsFaultOf text (StampTwice line) = RepeatsStamp text line
IsFaultOf text NoMemory = (recording : Recording) × (0 < length recording.events) × BeginsWith text recording
