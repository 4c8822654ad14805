-- What escaped texts and decimals don't hold.
use Rattle.std.proofs.Common.{◌≡◌, ◌+◌, ◌/◌, ◌%◌, ℕ, zero, suc, refl, ap, ◌∙◌, List, [], ◌∷◌, Bool, true, false, nat_lt, arith}
use Rattle.std.proofs.lemmas.Bool.{ne_eqb, ltb-true, false≢true}
use Rattle.std.proofs.lemmas.List.Folds.{list_all-append}
use Rattle.std.specs.Prelude.{◌==◌, if◌then◌else◌, ◌&&◌, not, codes, decimal}
use Rattle.std.specs.List.{filter, flat_map, list_all}
use Rattle.std.specs.Fmt.{digits, digits_onto}
use Rattle.explain_page.specs.Escaped.{is_plain, marks_up, escaped_byte, escaped}

-- for any answers of the tests on a byte
tests-escaped_byte : (byte : ℕ) (amp lt gt quot apos : Bool) → byte == 60 ≡ lt → byte == 62 ≡ gt → byte == 34 ≡ quot → byte == 39 ≡ apos
    → list_all is_plain (if amp then codes "&amp;" else if lt then codes "&lt;" else if gt then codes "&gt;" else if quot then codes "&quot;"
    else if apos then codes "&#39;" else byte ∷ []) ≡ true
tests-escaped_byte byte true lt gt quot apos l g q a = refl
tests-escaped_byte byte false true gt quot apos l g q a = refl
tests-escaped_byte byte false false true quot apos l g q a = refl
tests-escaped_byte byte false false false true apos l g q a = refl
tests-escaped_byte byte false false false false true l g q a = refl
tests-escaped_byte byte false false false false false l g q a = rw (l, g, q, a) refl

flat_map-escaped_byte : (bytes : List ℕ) → list_all is_plain (flat_map escaped_byte bytes) ≡ true
flat_map-escaped_byte [] = refl
flat_map-escaped_byte (byte ∷ bytes) =
    let first = tests-escaped_byte byte (byte == 38) (byte == 60) (byte == 62) (byte == 34) (byte == 39) refl refl refl refl in
    list_all-append is_plain (escaped_byte byte) (flat_map escaped_byte bytes)
    ∙ ap (λ b. b && list_all is_plain (flat_map escaped_byte bytes)) first ∙ flat_map-escaped_byte bytes

pub plain_escaped : (bytes : List ℕ) → list_all is_plain (escaped bytes) ≡ true
unfolding escaped
plain_escaped = flat_map-escaped_byte

-- the glyph of a digit, for either answer of the test on its size
plain_glyph : (d : ℕ) (is_below : Bool) → nat_lt d 10 ≡ is_below → is_plain (if is_below then 48 + d else 87 + d) ≡ true
plain_glyph d true e =
    let below = ltb-true d 10 e in
    rw (
      ne_eqb (48 + d) 60 (λ e. omega (arith, below)),
      ne_eqb (48 + d) 62 (λ e. omega (arith, below)),
      ne_eqb (48 + d) 34 (λ e. omega arith),
      ne_eqb (48 + d) 39 (λ e. omega arith),
    ) refl
plain_glyph d false e =
    rw (
      ne_eqb (87 + d) 60 (λ e. omega arith),
      ne_eqb (87 + d) 62 (λ e. omega arith),
      ne_eqb (87 + d) 34 (λ e. omega arith),
      ne_eqb (87 + d) 39 (λ e. omega arith),
    ) refl

-- a choice of two plain texts
either_plain : (b : Bool) (xs ys : List ℕ)
    → list_all is_plain xs ≡ true → list_all is_plain ys ≡ true → list_all is_plain (if b then xs else ys) ≡ true
either_plain true xs ys first second = first
either_plain false xs ys first second = second

-- the last k digits of a number, in front of a plain text
plain_digits : (k n : ℕ) (behind : List ℕ) → list_all is_plain behind ≡ true → list_all is_plain (digits_onto k 10 false n behind) ≡ true
plain_digits zero n behind plain = plain
plain_digits (suc k) n behind plain =
    let more = ap (λ b. b && list_all is_plain behind) (plain_glyph (n % 10) (nat_lt (n % 10) 10) refl) ∙ plain in
    either_plain (n / 10 == 0) _ _ more (plain_digits k (n / 10) _ more)

pub plain_decimal : (number : ℕ) → list_all is_plain (decimal number) ≡ true
unfolding digits
plain_decimal number = plain_digits 64 number [] refl

-- a byte in front of a plain text, for either answer of the test on it
filter_cons : (x : ℕ) (xs : List ℕ) (b : Bool) → b && list_all is_plain xs ≡ true → (list_all is_plain xs ≡ true → filter marks_up xs ≡ [])
    → (if not b then x ∷ filter marks_up xs else filter marks_up xs) ≡ []
filter_cons x xs true all rest = rest all
filter_cons x xs false all rest = absurd (false≢true all)

-- a plain text has no byte that marks up
pub filter_plain : (xs : List ℕ) → list_all is_plain xs ≡ true → filter marks_up xs ≡ []
filter_plain [] all = refl
filter_plain (x ∷ xs) all = filter_cons x xs (is_plain x) all (filter_plain xs)
