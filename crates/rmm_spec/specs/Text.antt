-- Numerals, lines of parts, and the bad line of a text outside its grammar. This project's own formats.
use Rattle.std.specs.Prelude.{◌≢◌, ℕ, zero, suc, ◌+◌, ◌-◌, ◌/◌, ◌%◌, ◌<◌, List, [], ◌∷◌, ◌++◌, map, nat_lt, ◌==◌, if◌then◌else◌}
use Rattle.std.specs.List.{AllByRecursion, join_with_byte, slice_split}
use Rattle.std.specs.Int.Digits.{digits_of}

-- the byte that shows a digit: 0 to 9, then a to f
abbrev pub glyph : ℕ → ℕ
glyph d = if nat_lt d 10 then d + 48 else d + 87

-- a number in a base, the highest digit first and without leading zeros
unfoldable pub numeral : ℕ → ℕ → List ℕ
numeral base n = if n == 0 then 48 ∷ [] else map glyph (digits_of base n)

unfoldable pub decimal : ℕ → List ℕ
decimal n = numeral 10 n

-- a 64-bit word in lower-case hex
unfoldable pub word : ℕ → List ℕ
word n = numeral 16 n

-- the last digits of a number in hex, so many of them
unfoldable pub fixed_hex : ℕ → ℕ → List ℕ
fixed_hex zero n = []
fixed_hex (suc count) n = fixed_hex count (n / 16) ++ glyph (n % 16) ∷ []

-- the bytes of a line's parts, with one space between each two
abbrev pub line_text : List (List ℕ) → List ℕ
line_text parts = join_with_byte 32 parts

-- the bytes have no newline among them
abbrev pub HasNoNewline : List ℕ → Type 0
HasNoNewline bytes = AllByRecursion (λ byte. byte ≢ 10) bytes

-- the parts of a line: what stands before, between and after its spaces
abbrev pub parts_of : List ℕ → List (List ℕ)
parts_of line = slice_split (λ byte. byte == 32) line

-- lines, each ended by a newline
abbrev pub lines_text : List (List (List ℕ)) → List ℕ
lines_text [] = []
lines_text (parts ∷ lines) = line_text parts ++ 10 ∷ lines_text lines

-- the first lines of a text with their newlines, as far as there are so many
abbrev pub first_lines : ℕ → List ℕ → List ℕ
first_lines zero text = []
first_lines (suc n) [] = []
first_lines (suc n) (byte ∷ text) = byte ∷ first_lines (if byte == 10 then n else suc n) text

-- Line n, counted from 1, is bad where the lines before it are in the grammar and with line n they aren't.
-- Before the first line nothing is asked: a text of no lines needs not be in the grammar.
pub record IsBadLine (InGrammar : List ℕ → Type 0) (text : List ℕ) (line : ℕ) : Type 0 where
  pub counted : 0 < line
  pub before : 1 < line → InGrammar (first_lines (line - 1) text)
  pub here : InGrammar (first_lines line text) → ⊥
