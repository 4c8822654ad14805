-- Sixteen bytes read as hex digits, lane by lane.
use Rattle.std.proofs.Common.{◌≡◌, ℕ, zero, suc, ◌+◌, ◌-◌, ◌*◌, ◌%◌, ◌^◌, ◌<◌, ◌≤◌, Bool, false, cond, ltb, List, [], ◌∷◌, ◌++◌, map, length, get_or, replicate, bit_and, refl, sym, ap, subst, ◌∙◌, inl, inr, arith, w8, w64, Fits}
use Rattle.std.proofs.lemmas.Bool.{cases_lt}
use Rattle.std.proofs.lemmas.Bool.Decides.{nat_tests}
use Rattle.std.specs.Int.{from_be_bytes, trailing_ones}
use Rattle.std.specs.Int.Digits.{number_from_digits}
use Rattle.std.specs.Simd.Lanes.{Each1, zip2, sel_l, mask_l, pick_l, top}
use Rattle.std.proofs.lemmas.List.{get_or-map, length-map}
use Rattle.std.proofs.lemmas.Nat.{and_mask}
use Rattle.std.proofs.lemmas.Nat.Bits.{bit_at-trailing_ones}
use Rattle.std.proofs.lemmas.Simd.{Each1-get_or, bit_mask_l, bitmask_splat, mask_l-lt, pick_l_left, pick_l_whole, zip2_splat}
use Rattle.rmm_spec.specs.Text.{glyph}

-- ---- the digits that bytes show

-- how the operations go at a lane
abbrev below_mask : ℕ → ℕ → ℕ
below_mask a b = cond (ltb a b) 255 0

abbrev plus : ℕ → ℕ → ℕ
plus a b = (a + b) % 256

abbrev minus : ℕ → ℕ → ℕ
minus a b = (a + (256 - b)) % 256

abbrev lower : ℕ → ℕ → ℕ
lower a b = cond (top 7 (below_mask a b)) a b

abbrev higher : ℕ → ℕ → ℕ
higher a b = cond (top 7 (below_mask a b)) b a

-- what is computed at a byte
abbrev lane : ℕ → ℕ
lane byte = lower (plus (higher (minus byte 58) 6) 10) (plus (lower (minus byte 97) 245) 10)

-- and by vectors
abbrev lows : List ℕ → List ℕ → List ℕ
lows xs ys = sel_l (map (top 7) (zip2 below_mask xs ys)) xs ys

abbrev highs : List ℕ → List ℕ → List ℕ
highs xs ys = sel_l (map (top 7) (zip2 below_mask xs ys)) ys xs

abbrev lanes_of : List ℕ → ℕ → List ℕ
lanes_of bytes n =
    lows (zip2 plus (highs (zip2 minus bytes (replicate n 58)) (replicate n 6)) (replicate n 10))
    (zip2 plus (lows (zip2 minus bytes (replicate n 97)) (replicate n 245)) (replicate n 10))

abbrev pub lanes : List ℕ → List ℕ
lanes bytes = lanes_of bytes 16

-- each lane by itself
lanes_long : (bytes : List ℕ) → lanes_of bytes (length bytes) ≡ map lane bytes
lanes_long [] = refl
lanes_long (byte ∷ bytes) = ap (λ ds. lane byte ∷ ds) (lanes_long bytes)

-- at every byte, what is below 16 is the digit that it shows
lane_shown : (byte : ℕ) → byte < 256 → lane byte < 16 → glyph (lane byte) ≡ byte
lane_shown byte fits small = grind (arith, nat_tests)

-- and each digit is found
lane_all : (d : ℕ) → d < 16 → lane (glyph d) < 16
lane_all d small = grind (arith, nat_tests)

lane_at : (bytes : List ℕ) (i : ℕ) → length bytes ≡ 16 → i < 16 → get_or (lanes bytes) i 0 ≡ lane (get_or bytes i 0)
lane_at bytes i long inside =
    ap (λ ds. get_or ds i 0) (ap (lanes_of bytes) (sym long) ∙ lanes_long bytes) ∙ get_or-map lane bytes i 0 0 (omega (arith, long))

-- a lane below 16 is the digit that its byte shows
pub lanes_shown : (bytes : List ℕ) → (length bytes ≡ 16) × Each1 (Fits w8) bytes → (i : ℕ)
    → i < 16 → get_or (lanes bytes) i 0 < 16 → glyph (get_or (lanes bytes) i 0) ≡ get_or bytes i 0
lanes_shown bytes vector i inside =
    let P : ℕ → Type 0 = λ d. d < 16 → glyph d ≡ get_or bytes i 0 in
    subst P (sym (lane_at bytes i vector.0 inside))
    (lane_shown (get_or bytes i 0) (Each1-get_or (Fits w8) bytes i 0 (omega (arith, vector.0)) vector.1).fits)

-- and a byte that shows a digit has such a lane
pub lanes_all : (bytes : List ℕ) → (length bytes ≡ 16) × Each1 (Fits w8) bytes → (i d : ℕ)
    → i < 16 → d < 16 → glyph d ≡ get_or bytes i 0 → get_or (lanes bytes) i 0 < 16
lanes_all bytes vector i d inside small shown =
    let is : lane (glyph d) ≡ get_or (lanes bytes) i 0 = ap lane shown ∙ sym (lane_at bytes i vector.0 inside) in
    subst (λ x. x < 16) is (lane_all d small)

-- ---- how many of them come first

abbrev is_digit : ℕ → Bool
is_digit d = ltb d 16

-- a bit that is set is that of a digit
set_lane : (ds : List ℕ) (i : ℕ) → ◌≡◌ {A = ℕ} (cond (get_or (map is_digit ds) i false) 1 0) 1 → (i < length ds) × (get_or ds i 0 < 16)
set_lane [] i e = absurd (omega arith)
set_lane (d ∷ ds) zero e = (omega arith, grind (arith, nat_tests))
set_lane (d ∷ ds) (suc i) e = let rest = set_lane ds i e in (omega (arith, rest.0), rest.1)

-- and one that isn't, of another lane
clear_lane : (ds : List ℕ) (i : ℕ) → ◌≡◌ {A = ℕ} (cond (get_or (map is_digit ds) i false) 1 0) 0 → i < length ds → 16 ≤ get_or ds i 0
clear_lane [] i e inside = absurd (omega arith)
clear_lane (d ∷ ds) zero e inside = grind (arith, nat_tests)
clear_lane (d ∷ ds) (suc i) e inside = clear_lane ds i e (omega arith)

-- how many digits come before the first lane that is none
pub record IsDigitCount (ds : List ℕ) (count : ℕ) : Type 0 where
  pub within : count ≤ 16
  pub digits : (i : ℕ) → i < count → get_or ds i 0 < 16
  pub end : count < 16 → 16 ≤ get_or ds count 0

-- these are the ones at the low end of the mask
pub digits_counted : (ds : List ℕ)
    → length ds ≡ 16 → IsDigitCount ds (trailing_ones w64 (mask_l (map (top 7) (zip2 below_mask ds (replicate 16 16))) % 2 ^ 64))
digits_counted ds long =
    let mask = mask_l (map is_digit ds) in
    let small : mask + 1 < 2 ^ 64 = omega (arith, mask_l-lt (map is_digit ds), ap (λ n. 2 ^ n) (length-map ds is_digit ∙ long)) in
    let ones = bit_at-trailing_ones w64 mask small in
    let lane_of : (i : ℕ) → i < trailing_ones w64 mask → (i < length ds) × (get_or ds i 0 < 16) =
    λ i before. set_lane ds i (sym (bit_mask_l (map is_digit ds) i) ∙ ones.2 i before) in
    subst (λ m. IsDigitCount ds (trailing_ones w64 m)) (sym (bitmask_splat w8 ltb ds 16 16 long (omega arith))) (record {
      within = elim (cases_lt 16
          (trailing_ones w64 mask)) [ inl past ↦ (let inside = (lane_of 16 past).0 in absurd (omega (arith, long))) | inr h ↦ omega arith ];
      digits = λ i before. (lane_of i before).1;
      end = λ before. clear_lane ds _ (sym (bit_mask_l (map is_digit ds) _) ∙ ones.1) (omega (arith, long));
    })

-- ---- the number that they spell

-- the lower half of a lane
abbrev pub low : ℕ → ℕ
low d = d % 16

abbrev even : List ℕ
even = 0 ∷ 2 ∷ 4 ∷ 6 ∷ 8 ∷ 10 ∷ 12 ∷ 14 ∷ []

abbrev odd : List ℕ
odd = 1 ∷ 3 ∷ 5 ∷ 7 ∷ 9 ∷ 11 ∷ 13 ∷ 15 ∷ []

-- a byte of each two digits, and the number of the bytes
abbrev paired : List ℕ → List ℕ → ℕ
paired highs lows = from_be_bytes w64 (zip2 plus (zip2 (λ a b. a * b % 256) highs (replicate 8 16)) lows)

abbrev pub word_of : List ℕ → ℕ
word_of ds = paired (pick_l 0 (ds ++ ds) even) (pick_l 0 (ds ++ ds) odd)

-- that number, of digits
word_of-digits : (ds : List ℕ) → length ds ≡ 16 → ((i : ℕ) → get_or ds i 0 < 16) → word_of ds ≡ number_from_digits 16 ds
word_of-digits ds long small =
    (λ i. paired (pick_l_left 0 ds ds 16 even long tt i) (pick_l_left 0 ds ds 16 odd long tt i))
    ∙ omega (
      arith,
      small 0,
      small 1,
      small 2,
      small 3,
      small 4,
      small 5,
      small 6,
      small 7,
      small 8,
      small 9,
      small 10,
      small 11,
      small 12,
      small 13,
      small 14,
      small 15,
    )
    ∙ ap (number_from_digits 16) (pick_l_whole 0 ds 16 long)

-- a lower half is a digit
low_below : (ds : List ℕ) (i : ℕ) → get_or (map low ds) i 0 < 16
low_below [] i = omega arith
low_below (d ∷ ds) zero = omega arith
low_below (d ∷ ds) (suc i) = low_below ds i

-- and so of the lower halves
pub word_of-low : (ds : List ℕ) → length ds ≡ 16 → word_of (zip2 bit_and ds (replicate 16 15)) ≡ number_from_digits 16 (map low ds)
word_of-low ds long =
    ap word_of (zip2_splat bit_and ds 16 15 long ∙ (λ i. map (λ d. and_mask d 4 i) ds))
    ∙ word_of-digits (map low ds) (length-map ds low ∙ long) (low_below ds)
