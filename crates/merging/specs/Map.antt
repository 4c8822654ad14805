-- The map of names as a text: a line for each address, with its name behind it, both in hex, in the order of first appearances.
use Rattle.std.specs.Prelude.{ℕ, ◌+◌, ◌*◌, false, List, [], ◌∷◌, ◌++◌}
use Rattle.std.specs.Fmt.{digits}

abbrev pub map_line : ℕ → ℕ → List ℕ
map_line address name = digits 16 false address ++ 32 ∷ (digits 16 false name ++ 10 ∷ [])

-- the lines of addresses that have the numbers from one on
abbrev pub map_from : ℕ → List ℕ → List ℕ
map_from number [] = []
map_from number (address ∷ addresses) = map_line address (4096 * number) ++ map_from (number + 1) addresses
