-- Numerals read byte by byte: what the bytes so far spell, and which bytes no number spells.
use Rattle.std.proofs.Common.{◌≡◌, ◌≢◌, ℕ, zero, suc, ◌+◌, ◌*◌, ◌/◌, ◌%◌, ◌^◌, ◌<◌, ◌≤◌, List, [], ◌∷◌, ◌++◌, map, length, get_or, take, drop, refl, sym, ap, subst, ◌∙◌, arith}
use Rattle.std.specs.List.{AllByRecursion}
use Rattle.std.specs.Int.Digits.{digits_of, number_from_digits, AllBelowBase}
use Rattle.std.proofs.lemmas.Int.Digits.{all_below_base_digits_of, digits_of_step, first_digits_of, number_digits_of, number_after_append, number_after_ge}
use Rattle.std.proofs.lemmas.List.{map-append, take_more, take-map, take-append-drop}
use Rattle.std.proofs.lemmas.List.Elements.{All-from_recursion}
use Rattle.std.proofs.lemmas.Nat.{div-mul-add, mod-mul-add}
use Rattle.std.proofs.Math.Nat.{le-mul_of_pos_right, pow-le-pow_right}
use Rattle.rmm_spec.specs.Text.{glyph, numeral}
use Rattle.spec_lemmas.proofs.Texts.{glyph-injective, map-glyph-injective, numeral_some, numeral-zero}

-- the first bytes are the digits of a number, and the first of them isn't 0
pub record SpellsSoFar (base : ℕ) (part : List ℕ) (count number : ℕ) : Type 0 where
  pub spelled : take count part ≡ map glyph (digits_of base number)
  pub positive : 0 < count → 0 < number
  pub first : get_or part 0 0 ≢ 48

abbrev pub IsDigit : ℕ → ℕ → Type 0
IsDigit base byte = (d : ℕ) × (d < base) × (glyph d ≡ byte)

first_digit_positive : (part : List ℕ) (count number base d : ℕ)
    → (0 < count → 0 < number) → get_or part 0 0 ≢ 48 → glyph d ≡ get_or part count 0 → 0 < base → 0 < number * base + d
first_digit_positive part zero number base zero positive first is h = absurd (first (sym is))
first_digit_positive part zero number base (suc d) positive first is h = omega arith
first_digit_positive part (suc count) number base d positive first is h =
    let some : 0 < number = positive (omega arith) in
    let product : number ≤ number * base = le-mul_of_pos_right number h in
    omega arith

-- one digit more
pub SpellsSoFar-more : (base : ℕ) (part : List ℕ) (count number d : ℕ) → 2 ≤ base → count < length part
    → SpellsSoFar base part count number → d < base → glyph d ≡ get_or part count 0 → SpellsSoFar base part (count + 1) (number * base + d)
SpellsSoFar-more base part count number d big inside so_far small is =
    let positive : 0 < number * base + d = first_digit_positive part count number base d so_far.positive so_far.first is (omega arith) in
    let step = digits_of_step base (number * base + d) big positive in
    let high : (number * base + d) / base ≡ number = div-mul-add number base d small in
    let low : (number * base + d) % base ≡ d = mod-mul-add number base d small in
    let digits : digits_of base (number * base + d) ≡ digits_of base number ++ d ∷ [] =
    step ∙ ap (λ n. digits_of base n ++ (number * base + d) % base ∷ []) high ∙ ap (λ n. digits_of base number ++ n ∷ []) low in
    record {
      spelled = take_more part count 0 inside
          ∙ ap (λ front. front ++ get_or part count 0 ∷ []) so_far.spelled
          ∙ ap (λ byte. map glyph (digits_of base number) ++ byte ∷ []) (sym is)
          ∙ sym (map-append glyph (digits_of base number) (d ∷ []))
          ∙ ap (λ ds. map glyph ds) (sym digits);
      positive = λ _. positive;
      first = so_far.first;
    }

-- a decimal that isn't at its last digit yet
pub decimal_below : (count number : ℕ) → count < 6 → number < 10 ^ count → number < 100000
decimal_below count number here below =
    let most : 10 ^ count ≤ 10 ^ 5 = pow-le-pow_right {n = 10} (omega arith) {i = count} {j = 5} (omega arith) in
    omega (arith, below, most)

-- before a first digit that isn't 0
pub SpellsSoFar-none : (base : ℕ) (part : List ℕ) (d : ℕ) → 0 < d → glyph d ≡ get_or part 0 0 → SpellsSoFar base part 0 0
SpellsSoFar-none base part d positive is = record {
  spelled = refl;
  positive = λ h. absurd (omega arith);
  first = λ e. let d-is : d ≡ 0 = glyph-injective d 0 (is ∙ e) in absurd (omega arith);
}

-- the first digit alone
pub SpellsSoFar-first : (base : ℕ) (part : List ℕ) (d : ℕ)
    → 2 ≤ base → 0 < length part → 0 < d → d < base → glyph d ≡ get_or part 0 0 → SpellsSoFar base part 1 d
SpellsSoFar-first base part d big some positive small is =
    let sum : 0 * base + d ≡ d = omega arith in
    subst (λ n. SpellsSoFar base part 1 n) sum (SpellsSoFar-more base part 0 0 d big some (SpellsSoFar-none base part d positive is) small is)

map-glyph-digits : (base : ℕ) (ds : List ℕ) → AllBelowBase base ds → AllByRecursion (IsDigit base) (map glyph ds)
map-glyph-digits base [] h = tt
map-glyph-digits base (d ∷ ds) h = ((d, h.0, refl), map-glyph-digits base ds h.1)

-- a numeral is made of digits
pub numeral-digits : (base n : ℕ) → 2 ≤ base → AllByRecursion (IsDigit base) (numeral base n)
numeral-digits base zero big = rw (numeral-zero base) ((0, omega arith, refl), tt)
numeral-digits base (suc n) big =
    rw (numeral_some base (suc n) (omega arith)) (map-glyph-digits base (digits_of base (suc n)) (all_below_base_digits_of base (suc n) big))

-- no number is spelled with a byte that isn't a digit
pub no_numeral-at_byte : (base : ℕ) (part : List ℕ) (i n : ℕ)
    → 2 ≤ base → i < length part → (IsDigit base (get_or part i 0) → ⊥) → part ≡ numeral base n → ⊥
no_numeral-at_byte base part i n big inside bad e =
    let P : List ℕ → Type 0 = λ bytes. AllByRecursion (IsDigit base) bytes in
    bad (All-from_recursion (IsDigit base) part (subst P (sym e) (numeral-digits base n big)) i 0 inside)

first_glyph : (ds : List ℕ) → 0 < get_or ds 0 0 → get_or (map glyph ds) 0 0 ≢ 48
first_glyph [] h e = absurd (omega arith)
first_glyph (d ∷ ds) h e =
    let d-is : d ≡ 0 = glyph-injective d 0 e in
    absurd (omega arith)

-- the one number whose digits begin with 0 is 0
pub zero_from_first : (base n : ℕ) → 2 ≤ base → get_or (numeral base n) 0 0 ≡ 48 → n ≡ 0
zero_from_first base zero big e = refl
zero_from_first base (suc n) big e =
    absurd (first_glyph (digits_of base (suc n)) (first_digits_of base (suc n) big (omega arith))
    (ap (λ bytes. get_or bytes 0 0) (sym (numeral_some base (suc n) (omega arith))) ∙ e))

-- no number is spelled with a leading zero
pub no_numeral-leading_zero : (base : ℕ) (part : List ℕ) (n : ℕ) → 2 ≤ base → get_or part 0 0 ≡ 48 → length part ≢ 1 → part ≡ numeral base n → ⊥
no_numeral-leading_zero base part n big first long e =
    let n-is : n ≡ 0 = zero_from_first base n big (ap (λ bytes. get_or bytes 0 0) (sym e) ∙ first) in
    long (ap length (e ∙ ap (numeral base) n-is ∙ numeral-zero base))

front_le : (base : ℕ) (ds : List ℕ) (k : ℕ) → 0 < base → number_from_digits base (take k ds) ≤ number_from_digits base ds
front_le base ds k big =
    let whole = ap (number_from_digits base) (take-append-drop k ds) in
    let cut = number_after_append base 0 (take k ds) (drop k ds) in
    let more = number_after_ge base (number_from_digits base (take k ds)) (drop k ds) big in
    omega (arith, whole, cut, more)

-- what the first bytes spell is at most what all of them do
pub le_from_SpellsSoFar : (base : ℕ) (part : List ℕ) (count number n : ℕ)
    → 2 ≤ base → SpellsSoFar base part count number → part ≡ numeral base n → number ≤ n
le_from_SpellsSoFar base part count number zero big so_far e = absurd (so_far.first (ap (λ bytes. get_or bytes 0 0) (e ∙ numeral-zero base)))
le_from_SpellsSoFar base part count number (suc n) big so_far e =
    let whole : part ≡ map glyph (digits_of base (suc n)) = e ∙ numeral_some base (suc n) (omega arith) in
    let fronts : map glyph (take count (digits_of base (suc n))) ≡ map glyph (digits_of base number) =
    sym (take-map glyph count (digits_of base (suc n))) ∙ ap (take count) (sym whole) ∙ so_far.spelled in
    let digits : take count (digits_of base (suc n)) ≡ digits_of base number = map-glyph-injective _ _ fronts in
    let le = front_le base (digits_of base (suc n)) count (omega arith) in
    let back = number_digits_of base (suc n) big in
    let number-is = ap (number_from_digits base) digits ∙ number_digits_of base number big in
    omega (arith, le, back, number-is)

-- the last digit stands behind the digits above it
pub digits_more : (base n : ℕ) → 2 ≤ base → 0 < n → map glyph (digits_of base n) ≡ map glyph (digits_of base (n / base)) ++ glyph (n % base) ∷ []
digits_more base n big some =
    ap (λ ds. map glyph ds) (digits_of_step base n big some) ∙ map-append glyph (digits_of base (n / base)) (n % base ∷ [])
