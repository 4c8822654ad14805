-- A text as HTML writes it, so that it shows as it is between tags and in a quoted attribute.
use Rattle.std.specs.Prelude.{ℕ, List, [], ◌∷◌, ◌==◌, ◌&&◌, Bool, not, if◌then◌else◌, codes}
use Rattle.std.specs.List.{flat_map}

-- the ampersand, both angle brackets and both quotes have names; every other byte stands for itself
abbrev pub escaped_byte : ℕ → List ℕ
escaped_byte byte =
    if byte == 38 then codes "&amp;"
    else if byte == 60 then codes "&lt;"
    else if byte == 62 then codes "&gt;"
    else if byte == 34 then codes "&quot;"
    else if byte == 39 then codes "&#39;"
    else byte ∷ []

unfoldable pub escaped : List ℕ → List ℕ
escaped bytes = flat_map escaped_byte bytes

-- a byte that neither opens or closes a tag nor ends an attribute's value
abbrev pub is_plain : ℕ → Bool
is_plain byte = not (byte == 60) && not (byte == 62) && not (byte == 34) && not (byte == 39)

-- a byte that does so
abbrev pub marks_up : ℕ → Bool
marks_up byte = not (is_plain byte)
