-- The cells that a turn is lent.
use Rattle.std.specs.Prelude.{ℕ, List, map}
use Rattle.rmm_spec.specs.Cell as whole
use Rattle.rmm_spec.specs.Local.{HeldCell}

-- the cells of granules
abbrev pub cells_at : (ℕ → whole.Cell) → List ℕ → List HeldCell
cells_at cells taken = map (λ granule. record { granule = granule; cell = cells granule }) taken
