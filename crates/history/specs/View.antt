-- What contracts see of a history.
use Rattle.std.specs.Prelude.{ℕ}
use Rattle.rmm_spec.specs.HistoryText.{History}

-- what is recorded, and how many more events are sure to take no memory
pub record Recording : Type 0 where
  pub recorded : History
  pub room : ℕ
