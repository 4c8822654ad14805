-- The whole lines of a text, counted.
use Rattle.std.specs.Prelude.{ℕ, ◌+◌, ◌==◌, List, [], ◌∷◌, if◌then◌else◌}

-- how many lines of a text are whole
abbrev pub newlines : List ℕ → ℕ
newlines [] = 0
newlines (byte ∷ text) = (if byte == 10 then 1 else 0) + newlines text
