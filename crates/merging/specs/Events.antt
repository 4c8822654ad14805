-- The moments of a run as a monitor's recorder writes them, and the texts that stand for them. This project's own format.
use Rattle.std.specs.Prelude.{◌≡◌, ℕ, ◌<◌, ◌≤◌, List, [], ◌∷◌, map, length, codes}
use Rattle.std.specs.List.{AllByRecursion}
use Rattle.rmm_spec.specs.declared.command.Command.{Command}
use Rattle.rmm_spec.specs.declared.reply.Reply.{Reply}
use Rattle.rmm_spec.specs.declared.version.Version.TheVariants.{Large}
use Rattle.rmm_spec.specs.CommandText.{IsCommand, IsReply, command_parts, reply_parts}
use Rattle.rmm_spec.specs.HistoryText.{IsConfig}
use Rattle.rmm_spec.specs.Text.{decimal, lines_text}

-- what a CPU does with a command: it is called, its command takes effect, it returns
pub data Moment : Type 0 where
  Call : Command → Moment
  Commit : Reply → Moment
  Return : Reply → Moment

-- one line of a recorder. Stamps are taken from one clock, which counts the moments of all CPUs from 0.
pub record Recorded : Type 0 where
  pub stamp : ℕ
  pub cpu : ℕ
  pub moment : Moment

-- how many granules and CPUs a machine has, and what was recorded of it, line by line
pub record Recording : Type 0 where
  pub granules : ℕ
  pub cpus : ℕ
  pub events : List Recorded

abbrev pub IsMoment : Moment → Type 0
IsMoment (Call command) = IsCommand command
IsMoment (Commit given) = IsReply given
IsMoment (Return given) = IsReply given

pub record IsRecorded (event : Recorded) : Type 0 where
  pub stamp : event.stamp < 2000000
  pub cpu : event.cpu < 8
  pub moment : IsMoment event.moment

-- Each event has a text, and with its header the recording has at most 2,000,001 lines. In which order they stand isn't asked here.
pub record IsRecording (recording : Recording) : Type 0 where
  pub config : IsConfig (record { granules = recording.granules; cpus = recording.cpus; version = Large })
  pub each : AllByRecursion IsRecorded recording.events
  pub count : length recording.events ≤ 2000000

unfoldable pub moment_parts : Moment → List (List ℕ)
moment_parts (Call command) = codes "call" ∷ command_parts command
moment_parts (Commit given) = codes "commit" ∷ reply_parts given
moment_parts (Return given) = codes "return" ∷ reply_parts given

abbrev pub recorded_parts : Recorded → List (List ℕ)
recorded_parts event = decimal event.stamp ∷ decimal event.cpu ∷ moment_parts event.moment

abbrev pub sizes_parts : ℕ → ℕ → List (List ℕ)
sizes_parts granules cpus = codes "rme1" ∷ decimal granules ∷ decimal cpus ∷ []

abbrev pub recording_text : Recording → List ℕ
recording_text recording = lines_text (sizes_parts recording.granules recording.cpus ∷ map recorded_parts recording.events)

-- the text stands for the recording
pub record IsRecordingText (text : List ℕ) (recording : Recording) : Type 0 where
  pub is_recording : IsRecording recording
  pub is_text : text ≡ recording_text recording

-- the grammar of recordings
abbrev pub InRecordings : List ℕ → Type 0
InRecordings text = (recording : Recording) × IsRecordingText text recording
