-- What is made of a run, and what a walk over events counts.
use Rattle.std.specs.Prelude.{◌≡◌, ℕ, ◌+◌, ◌<◌, ◌≤◌, List, length, map, take, slice_index, Option}
use Rattle.std.specs.List.{AllByRecursion}
use Rattle.std.specs.Io.KnownBytes.{Appends}
use Rattle.rmm_spec.specs.CertificateText.{IsCertificateText, line_parts}
use Rattle.rmm_spec.specs.HistoryText.{Config, History, IsHistoryText, event_parts}
use Rattle.rmm_spec.specs.Text.{lines_text}
use Rattle.merging.specs.Events.{Moment, Call, Commit, Return}
use Rattle.merging.specs.Table.{Happened, IsHappened}
use Rattle.merging.specs.Run.{Stand, CanFollow, IsRun, starts, stand_at, stands_with, stands_after, event_count, line_count, events_of, lines_of, events_from, lines_from, events_merged, lines_merged, returns_in, known_front}
use Rattle.merging.specs.declared.naming.Naming.{Naming}

-- a machine, how addresses are told, and the events as they are told
pub record Merge : Type 0 where
  pub config : Config
  pub naming : Naming
  pub events : List Happened

abbrev pub history_of : Merge → History
history_of merge = record { config = merge.config; events = events_merged merge.events }

-- The events are a run of so many CPUs, and both texts have room for their lines.
pub record CanMerge (cpus : ℕ) (events : List Happened) : Type 0 where
  pub is_run : IsRun cpus starts events
  pub each : AllByRecursion IsHappened events
  pub few_events : length (events_merged events) < 1000000
  pub few_lines : length (lines_merged events) ≤ 1000000

-- how often each of the eight CPUs that a machine may have returns
pub record AreReturns (returns : List ℕ) (slots : List Happened) : Type 0 where
  pub counted : length returns ≡ 8
  pub each : (cpu : ℕ) → cpu < 8 → slice_index returns cpu ≡ returns_in cpu slots

-- The fields of a run: its events can be merged, and are told of what is known before the first hole.
pub record IsHeld (slots : List (Option Happened)) (count : ℕ) (counts : List ℕ) (merge : Merge) : Type 0 where
  pub can_merge : CanMerge merge.config.cpus merge.events
  pub stamps : count ≡ length (known_front slots)
  pub returns : AreReturns counts (known_front slots)

-- ---- a walk over events

-- where each CPU stands, and how many events and lines of a certificate were made
pub record Walked : Type 0 where
  pub stands : List Stand
  pub events : ℕ
  pub lines : ℕ

-- no CPU has called or returned more often than there are stamps
pub record AreFew (stands : ℕ → Stand) : Type 0 where
  pub calls : (cpu : ℕ) → (stands cpu).calls ≤ 2000000
  pub returns : (cpu : ℕ) → (stands cpu).returns ≤ 2000000

-- a walk that counts no more than the texts have room for
pub record IsSmall (walked : Walked) : Type 0 where
  pub stands : AreFew (stand_at walked.stands)
  pub events : walked.events < 1000000
  pub lines : walked.lines ≤ 1000000

-- A moment could follow and did, on a machine of so many CPUs.
pub record IsStep (cpus : ℕ) (old new : Walked) (slot : Happened) : Type 0 where
  pub can_follow : CanFollow cpus (stand_at old.stands slot.cpu) slot
  pub stands : stand_at new.stands ≡ stands_with (stand_at old.stands) slot
  pub events : new.events ≡ old.events + event_count slot.moment
  pub lines : new.lines ≡ old.lines + line_count slot.moment
  pub few_events : new.events < 1000000
  pub few_lines : new.lines ≤ 1000000

-- a walk over the first moments, so many
pub record IsWalkedTo (stamp : ℕ) (slots : List Happened) (cpus : ℕ) (walked : Walked) : Type 0 where
  pub is_run : IsRun cpus starts (take stamp slots)
  pub each : AllByRecursion IsHappened (take stamp slots)
  pub stands : stand_at walked.stands ≡ stands_after starts (take stamp slots)
  pub events : walked.events ≡ length (events_from starts (take stamp slots))
  pub lines : walked.lines ≡ length (lines_from (λ cpu. returns_in cpu slots) starts (take stamp slots))
  pub few_events : walked.events < 1000000
  pub few_lines : walked.lines ≤ 1000000

-- ---- both texts, written

-- the lines of a moment in the history and in the certificate
abbrev pub event_lines : (ℕ → Stand) → Happened → List ℕ
event_lines stands slot = lines_text (map event_parts (events_of (stands slot.cpu) slot.cpu slot.moment))

abbrev pub commit_lines : (ℕ → ℕ) → (ℕ → Stand) → Happened → List ℕ
commit_lines returns stands slot = lines_text (map line_parts (lines_of (returns slot.cpu) (stands slot.cpu) slot.cpu slot.moment))

-- the one of them that a moment has, of a CPU that returns so often in all
abbrev pub text_of : ℕ → Stand → ℕ → Moment → List ℕ
text_of returns stand cpu (Call command) = lines_text (map event_parts (events_of stand cpu (Call command)))
text_of returns stand cpu (Commit given) = lines_text (map line_parts (lines_of returns stand cpu (Commit given)))
text_of returns stand cpu (Return given) = lines_text (map event_parts (events_of stand cpu (Return given)))

abbrev pub moment_text : ℕ → Stand → Happened → List ℕ
moment_text returns stand slot = text_of returns stand slot.cpu slot.moment

-- no CPU has called so often that a call's number has no text
abbrev pub AreNumbered : (ℕ → Stand) → Type 0
AreNumbered stands = (cpu : ℕ) → (stands cpu).calls < 1000000

-- What a writer holds, where that is known, grew by a text in the grammar.
pub record GrowsByText (IsText : List ℕ → Type 0) (old new : Option (List ℕ)) : Type 0 where
  pub text : List ℕ
  pub is_text : IsText text
  pub appends : Appends old new text

abbrev pub GrowsByHistory : Merge → Option (List ℕ) → Option (List ℕ) → Type 0
GrowsByHistory merge old new = GrowsByText (λ text. IsHistoryText text (history_of merge)) old new

abbrev pub GrowsByCertificate : Merge → Option (List ℕ) → Option (List ℕ) → Type 0
GrowsByCertificate merge old new = GrowsByText (λ text. IsCertificateText text (lines_merged merge.events)) old new
