-- The texts of commands and turns are ASCII.
use Rattle.std.proofs.Common.{ℕ, zero, suc, ◌/◌, ◌%◌, ◌<◌, ◌≤◌, ◌==◌, List, [], ◌∷◌, map, arith, lit<, inl, inr}
use Rattle.std.specs.Int.Digits.{digits_of, AllBelowBase}
use Rattle.std.specs.List.{AllByRecursion}
use Rattle.std.specs.Str.{IsAscii}
use Rattle.std.proofs.lemmas.Bool.{cases_Bool}
use Rattle.std.proofs.lemmas.Bool.Decides.{nat_tests}
use Rattle.std.proofs.lemmas.Int.Digits.{all_below_base_digits_of}
use Rattle.rmm_spec.specs.declared.command.Command.{Command}
use Rattle.rmm_spec.specs.declared.turn.Due.{Due}
use Rattle.rmm_spec.specs.declared.turn.Will.{Will}
use Rattle.rmm_spec.specs.declared.turn.Will.TheVariants.{Go, GiveUp, Stop}
use Rattle.rmm_spec.specs.CommandText.{command_parts, command_text}
use Rattle.rmm_spec.specs.Function.{number_of}
use Rattle.rmm_spec.specs.Scenario.{turn_text, will_text}
use Rattle.rmm_spec.specs.Text.{glyph, numeral, decimal, word, fixed_hex, line_text}
use Rattle.spec_lemmas.proofs.Texts.{AllByRecursion-append}

-- a byte of ASCII
abbrev pub IsLow : ℕ → Type 0
IsLow byte = byte < 128

abbrev pub AreLow : List ℕ → Type 0
AreLow bytes = AllByRecursion IsLow bytes

glyph-low : (d : ℕ) → d < 16 → glyph d < 128
glyph-low d low = grind (arith, nat_tests)

map-glyph-low : (base : ℕ) (ds : List ℕ) → base ≤ 16 → AllBelowBase base ds → AreLow (map glyph ds)
map-glyph-low base [] most below = tt
map-glyph-low base (d ∷ ds) most below = (glyph-low d (omega (arith, below.0)), map-glyph-low base ds most below.1)

numeral-low : (base n : ℕ) → 2 ≤ base → base ≤ 16 → AreLow (numeral base n)
unfolding numeral
numeral-low base n some most =
    elim (cases_Bool (n == 0)) [
      | inl none ↦ rw none (lit< tt, tt)
      | inr digits ↦ rw digits (map-glyph-low base (digits_of base n) most (all_below_base_digits_of base n some))
    ]

fixed_hex-low : (count n : ℕ) → AreLow (fixed_hex count n)
unfolding fixed_hex
fixed_hex-low zero n = tt
fixed_hex-low (suc count) n =
    AllByRecursion-append IsLow (fixed_hex count (n / 16)) (glyph (n % 16) ∷ []) (fixed_hex-low count (n / 16)) (glyph-low (n % 16) (omega arith), tt)

words-low : (words : List ℕ) → AllByRecursion AreLow (map word words)
unfolding word
words-low [] = tt
words-low (w ∷ ws) = (numeral-low 16 w (omega arith) (omega arith), words-low ws)

line_text-low : (parts : List (List ℕ)) → AllByRecursion AreLow parts → AreLow (line_text parts)
line_text-low [] low = tt
line_text-low (part ∷ []) low = low.0
line_text-low (part ∷ next ∷ parts) low =
    AllByRecursion-append IsLow part (32 ∷ line_text (next ∷ parts)) low.0 (lit< tt, line_text-low (next ∷ parts) low.1)

IsAscii-low : (bytes : List ℕ) → AreLow bytes → IsAscii bytes
IsAscii-low [] low i = lit< tt
IsAscii-low (byte ∷ bytes) low zero = low.0
IsAscii-low (byte ∷ bytes) low (suc i) = IsAscii-low bytes low.1 i

will_text-low : (will : Will) → AreLow (will_text will)
will_text-low Go = tt
will_text-low GiveUp = (lit< tt, (lit< tt, (lit< tt, (lit< tt, (lit< tt, (lit< tt, (lit< tt, tt)))))))
will_text-low Stop = (lit< tt, (lit< tt, (lit< tt, (lit< tt, (lit< tt, tt)))))

pub command_text-ascii : (command : Command) → IsAscii (command_text command)
unfolding command_parts
command_text-ascii command =
    IsAscii-low (command_text command)
    (line_text-low (command_parts command) (fixed_hex-low 8 (number_of command.function), words-low command.words.items))

pub turn_text-ascii : (turn : Due) → IsAscii (turn_text turn)
unfolding decimal
turn_text-ascii turn =
    IsAscii-low (turn_text turn) (AllByRecursion-append IsLow (decimal turn.cpu) (will_text turn.will)
    (numeral-low 10 turn.cpu (omega arith) (omega arith)) (will_text-low turn.will))
