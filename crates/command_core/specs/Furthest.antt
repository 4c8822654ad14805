-- How far a RIPAS command gets: to the greatest end that its rows allow. This project's own.
use Rattle.std.specs.Prelude.{ℕ, zero, suc, ◌+◌, ◌-◌, ◌*◌, ◌/◌, Bool, ◌&&◌, ◌==◌, min, if◌then◌else◌}
use Rattle.rmm_spec.specs.declared.accepted.Stretch.{Stretch}
use Rattle.rmm_spec.specs.State.{State}
use Rattle.rmm_spec.specs.Walk.{entry_size, table_size, entry_number, table_number, entry_at}
use Rattle.rmm_spec.specs.Step.Ripas.{can_be_set}

-- how many of the first n numbers pass before one doesn't
abbrev pub leading : ℕ → (ℕ → Bool) → ℕ
leading zero passes = 0
leading (suc n) passes = if leading n passes == n && passes n then suc n else leading n passes

-- whether the RIPAS of the entry so many behind the first may be set
abbrev pub may_set : State → Stretch → ℕ → Bool
may_set s stretch k = can_be_set stretch.purpose (entry_at s stretch.rd stretch.level (entry_number stretch.level stretch.base + k))

-- how many entries end by the top that is asked for, and by the end of the first one's table
abbrev pub most_set : Stretch → ℕ
most_set stretch =
    (min stretch.top ((table_number stretch.level stretch.base + 1) * table_size stretch.level) - stretch.base) / entry_size stretch.level

unfoldable pub furthest : State → Stretch → ℕ
furthest s stretch = stretch.base + leading (most_set stretch) (may_set s stretch) * entry_size stretch.level
