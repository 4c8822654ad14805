-- The texts of turns.
use Rattle.std.proofs.Common.{◌≡◌, ◌<◌, ℕ, zero, suc, true, false, ◌==◌, ◌+◌, List, [], ◌∷◌, ◌++◌, length, get_or, drop, map, refl, sym, ap, ◌∙◌, arith, lit≤}
use Rattle.std.specs.Int.Digits.{digits_of}
use Rattle.std.proofs.lemmas.Int.Digits.{digits_of_step}
use Rattle.std.proofs.lemmas.Bool.Decides.{nat_tests}
use Rattle.std.proofs.Math.Nat.{mod-eq_of_lt, div-eq_of_lt}
use Rattle.rmm_spec.specs.Text.{glyph, decimal}
use Rattle.spec_lemmas.proofs.Texts.{numeral_some, numeral-zero}
use Rattle.rmm_spec.specs.declared.turn.Due.{Due}
use Rattle.rmm_spec.specs.Scenario.{turn_text, will_text}

digits_of-digit : (n : ℕ) → 0 < n → n < 10 → digits_of 10 n ≡ n ∷ []
digits_of-digit n some low = digits_of_step 10 n (lit≤ tt) some ∙ rw (div-eq_of_lt low, mod-eq_of_lt low) refl

glyph-digit : (n : ℕ) → n < 10 → glyph n ≡ n + 48
glyph-digit n low = grind (arith, nat_tests)

-- tests of a length
pub is_empty-length : (n : ℕ) → true ≡ (n == 0) → n ≡ 0
is_empty-length n empty = grind (arith, nat_tests)

pub not_empty-length : (n : ℕ) → false ≡ (n == 0) → 0 < n
not_empty-length n some = grind (arith, nat_tests)

-- a number below ten is one byte
pub decimal-digit : (n : ℕ) → n < 10 → decimal n ≡ (n + 48) ∷ []
unfolding decimal
decimal-digit zero low = numeral-zero 10
decimal-digit (suc n) low =
    numeral_some 10 (suc n) (omega arith) ∙ ap (map glyph) (digits_of-digit (suc n) (omega arith) low)
    ∙ ap (λ byte. byte ∷ []) (glyph-digit (suc n) low)

pub turn_text-digit : (turn : Due) → turn.cpu < 10 → turn_text turn ≡ (turn.cpu + 48) ∷ will_text turn.will
turn_text-digit turn low = ap (λ front. front ++ will_text turn.will) (decimal-digit turn.cpu low)

-- A text of a digit and a will is that of the turn.
pub turn_text-from : (text : List ℕ) (digit : ℕ) (turn : Due)
    → turn.cpu < 10 → 0 < length text → digit ≡ get_or text 0 0 → digit ≡ turn.cpu + 48 → drop 1 text ≡ will_text turn.will → text ≡ turn_text turn
turn_text-from [] digit turn low some first same rest = absurd (omega arith)
turn_text-from (byte ∷ bytes) digit turn low some first same rest = sym (turn_text-digit turn low ∙ rw (← same, first, ← rest) refl)

-- What a turn's text begins with, and what stands behind.
pub record BeginsWith (text : List ℕ) (turn : Due) : Type 0 where
  pub some : 0 < length text
  pub digit : get_or text 0 0 ≡ turn.cpu + 48
  pub will : drop 1 text ≡ will_text turn.will

pub BeginsWith-turn : (text : List ℕ) (turn : Due) → turn.cpu < 10 → text ≡ turn_text turn → BeginsWith text turn
BeginsWith-turn text turn low same = rw (same ∙ turn_text-digit turn low) (record { some = omega arith; digit = refl; will = refl })
