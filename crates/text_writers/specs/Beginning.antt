-- The beginnings of a text.
use Rattle.std.specs.Prelude.{◌≡◌, ℕ, List, length, take}

abbrev pub IsBeginning : List ℕ → List ℕ → Type 0
IsBeginning front whole = take (length front) whole ≡ front
