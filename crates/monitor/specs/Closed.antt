-- What is left of a run at its close.
use Rattle.std.specs.Prelude.{◌≡◌, ℕ, ◌+◌, ◌<◌, ◌≤◌, ◌⊎◌, List, length, map}
use Rattle.std.specs.List.{sum_by}
use Rattle.rmm_spec.specs.declared.event.Event.{Event}
use Rattle.rmm_spec.specs.declared.line.Line.{Line}
use Rattle.rmm_spec.specs.HistoryText.{Config}
use Rattle.rmm_spec.specs.Linearization.{IsLinearization}
use Rattle.rmm_spec.specs.Run.{JournalEntry, IsRun}
use Rattle.rmm_spec.specs.State.{State, opening}
use Rattle.commit_tickets.specs.Listed.{AreListed}
use Rattle.commit_tickets.specs.View.{TokenView}
use Rattle.event_queue.specs.Numbered.{lines_for}
use Rattle.event_queue.specs.View.{CpuView, count_recorded}
use Rattle.history.specs.View.{Recording}

-- The lines are a journal that the tokens list, written as a certificate of these events, and a linearization of them.
pub record IsJournal (config : Config) (tokens : List TokenView) (events : List Event) (lines : List Line) : Type 0 where
  pub entries : List JournalEntry
  pub linearization : IsLinearization (record { config = config; events = events }) lines
  pub listed : AreListed tokens entries
  pub written : lines ≡ lines_for events entries

-- how many commits the tokens list together
abbrev pub count_committed : List TokenView → ℕ
count_committed tokens = sum_by (λ (token : TokenView). length token.mine) tokens

-- the history has no room in memory for all that the passes recorded and one event more, or there is a commit to write
abbrev pub IsShort : Recording → List TokenView → List CpuView → Type 0
IsShort history tokens passes =
    (history.room + length history.recorded.events ≤ count_recorded passes) ⊎ (0 < count_committed tokens)

-- The entries, a run of this machine and as many as the tokens list together, aren't what they list.
pub record Disagree (config : Config) (tokens : List TokenView) (entries : List JournalEntry) : Type 0 where
  pub last : State
  pub run : IsRun (opening config) entries last
  pub counted : length entries ≡ count_committed tokens
  pub unlisted : ¬ AreListed tokens entries
