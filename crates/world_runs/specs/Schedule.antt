-- The turns that all CPUs have one after another.
use Rattle.std.specs.Prelude.{ℕ, zero, suc, ◌%◌, List, [], ◌∷◌, ◌++◌}
use Rattle.rmm_spec.specs.declared.turn.Due.{Due}
use Rattle.rmm_spec.specs.declared.turn.Will.TheVariants.{Go}

-- so many turns in a ring: CPU 0 goes first, and after the last CPU it is its turn again
unfoldable pub ring : ℕ → ℕ → List Due
ring cpus zero = []
ring cpus (suc count) = ring cpus count ++ record { cpu = count % cpus; will = Go } ∷ []
