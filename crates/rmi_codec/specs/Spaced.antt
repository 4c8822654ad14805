-- The rest of a line behind its first part.
use Rattle.std.specs.Prelude.{ℕ, List, [], ◌∷◌, ◌++◌, ◌==◌, nat_lt, if◌then◌else◌, length, drop}
use Rattle.rmm_spec.specs.Text.{parts_of}

-- the parts, each behind a space
abbrev pub spaced : List (List ℕ) → List ℕ
spaced [] = []
spaced (part ∷ parts) = 32 ∷ part ++ spaced parts

-- the parts behind the end of a line's first part
abbrev pub parts_behind : ℕ → List ℕ → List (List ℕ)
parts_behind end line = if end == length line then [] else parts_of (drop 1 (drop end line))

-- the parts from a place of a line on, of which there is none past its end
abbrev pub parts_from : ℕ → List ℕ → List (List ℕ)
parts_from at line = if nat_lt (length line) at then [] else parts_of (drop at line)
