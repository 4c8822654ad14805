-- Histories that end earlier.
use Rattle.std.specs.Prelude.{ℕ, take}
use Rattle.rmm_spec.specs.HistoryText.{History}

-- the history of the first events, so many
abbrev pub first_part : ℕ → History → History
first_part count history = record history { events = take count history.events }
