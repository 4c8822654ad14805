-- The ends that a stretch may have.
use Rattle.std.specs.Prelude.{◌≡◌, ℕ, ◌+◌, ◌*◌, ◌<◌, ◌≤◌, Option, Some}
use Rattle.rmm_spec.specs.declared.accepted.Stretch.{Stretch}
use Rattle.rmm_spec.specs.Walk.{entry_size, table_size, table_number}

-- the stretch may end there by the words of its command: behind one or more entries of one table, by its top
pub record IsEnd (stretch : Stretch) (end : ℕ) : Type 0 where
  pub count : ℕ
  pub some : 1 ≤ count
  pub is_end : end ≡ stretch.base + count * entry_size stretch.level
  pub within : end ≤ stretch.top
  pub in_table : end ≤ (table_number stretch.level stretch.base + 1) * table_size stretch.level

-- the end is below the bound, where there is one
abbrev pub IsBelow : Option ℕ → ℕ → Type 0
IsBelow above end = (bound : ℕ) → above ≡ Some bound → end < bound
