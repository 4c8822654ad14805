-- How many calls of each CPU stand in an order.
use Rattle.std.specs.Prelude.{◌≡◌, ℕ, ◌<◌, List, length, slice_index}
use Rattle.rmm_spec.specs.declared.line.Line.{Line}
use Rattle.verdict_laws.specs.Order.{count_of}

-- how many calls of each CPU the lines name
pub record AreCounts (counts : List ℕ) (lines : List Line) : Type 0 where
  pub size : length counts ≡ 8
  pub each : (cpu : ℕ) → cpu < 8 → slice_index counts cpu ≡ count_of cpu lines
