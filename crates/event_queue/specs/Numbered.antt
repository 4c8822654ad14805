-- The commits of a journal, with their numbers, and as the lines of a certificate.
use Rattle.std.specs.Prelude.{ℕ, ◌+◌, ◌==◌, List, [], ◌∷◌, length, map}
use Rattle.std.specs.List.{filter}
use Rattle.rmm_spec.specs.declared.event.Event.{Event}
use Rattle.rmm_spec.specs.declared.line.Line.{Line}
use Rattle.rmm_spec.specs.Cell.{put}
use Rattle.rmm_spec.specs.Linearization.{AreEntriesOf, IsOrderOf, KeepsRealTime}
use Rattle.rmm_spec.specs.Run.{JournalEntry}
use Rattle.rmm_spec.specs.World.{Commitment, line_for}

-- the entries with their numbers, where each CPU's next one has this number
abbrev pub numbered_from : (ℕ → ℕ) → List JournalEntry → List Commitment
numbered_from number [] = []
numbered_from number (entry ∷ entries) =
    record { cpu = entry.cpu; number = number entry.cpu; command = entry.command; given = entry.given }
    ∷ numbered_from (put number entry.cpu (number entry.cpu + 1)) entries

-- each entry with its number among those of its CPU, counted from 0
abbrev pub numbered : List JournalEntry → List Commitment
numbered entries = numbered_from (λ _. 0) entries

-- how many of the entries are the CPU's
abbrev pub count_of : ℕ → List JournalEntry → ℕ
count_of cpu entries = length (filter (λ (entry : JournalEntry). entry.cpu == cpu) entries)

-- the journal written as a certificate of these events
abbrev pub lines_for : List Event → List JournalEntry → List Line
lines_for events entries = map (line_for events) (numbered entries)

-- Written as a certificate of the events, the entries are an order of the calls that keeps real time, and are what its lines claim.
-- So of a linearization only the run is left.
pub record AreInOrder (events : List Event) (entries : List JournalEntry) : Type 0 where
  pub order : IsOrderOf events (lines_for events entries)
  pub real_time : KeepsRealTime events (lines_for events entries)
  pub claimed : AreEntriesOf events (lines_for events entries) entries
