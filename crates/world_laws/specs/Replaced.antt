-- What is held, with another cell at one granule. This project's own.
use Rattle.std.specs.Prelude.{ℕ, ◌==◌, if◌then◌else◌, List, map}
use Rattle.std.specs.List.{fold}
use Rattle.rmm_spec.specs.Cell.{Cell}
use Rattle.rmm_spec.specs.Local.{HeldCell, Hold}

abbrev pub held_at : ℕ → Cell → HeldCell
held_at granule cell = record { granule = granule; cell = cell }

abbrev pub replaced_at : ℕ → Cell → HeldCell → HeldCell
replaced_at granule cell h = record { granule = h.granule; cell = if h.granule == granule then cell else h.cell }

abbrev pub replaced_cells : List HeldCell → ℕ → Cell → List HeldCell
replaced_cells held granule cell = map (replaced_at granule cell) held

abbrev pub replaced : Hold → ℕ → Cell → Hold
replaced hold granule cell = record hold { cells = replaced_cells hold.cells granule cell }

-- each of these cells takes the place of the one that is held at its granule
abbrev pub replaced_all : List HeldCell → List HeldCell → List HeldCell
replaced_all held changes = fold (λ now (h : HeldCell). replaced_cells now h.granule h.cell) held changes
