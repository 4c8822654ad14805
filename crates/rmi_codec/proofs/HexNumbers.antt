-- Numbers of hex digits, cut behind their first ones.
use Rattle.std.proofs.Common.{◌≡◌, ℕ, zero, suc, ◌+◌, ◌-◌, ◌*◌, ◌/◌, ◌^◌, ◌<◌, ◌≤◌, List, [], ◌∷◌, map, length, get_or, take, sym, ap, subst, ◌∙◌, arith, add-one}
use Rattle.std.specs.Int.Digits.{number_from_digits, number_from_digits_after}
use Rattle.std.proofs.lemmas.Int.Digits.{number_more}
use Rattle.std.proofs.lemmas.List.{get_or-map, get_or-take, length-map}
use Rattle.std.proofs.lemmas.Nat.{div-mul-add, pow-add}
use Rattle.std.proofs.Math.Nat.{div-div-eq-div-mul, div-one}
use Rattle.rmm_spec.specs.Text.{glyph, numeral}
use Rattle.spec_lemmas.proofs.Texts.{numeral_some}
use Rattle.rmi_codec.proofs.HexLanes.{low}
use Rattle.rmi_codec.proofs.NumberLaws.{SpellsSoFar, SpellsSoFar-more, SpellsSoFar-none}

-- what stands above so many digits
above : (n : ℕ) (ds : List ℕ) → number_from_digits_after 16 n (map low ds) / 2 ^ (4 * length ds) ≡ n
above n [] = div-one n
above n (d ∷ ds) =
    let power : 2 ^ (4 * suc (length ds)) ≡ 2 ^ (4 * length ds) * 16 =
    (let e : 4 * suc (length ds) ≡ 4 * length ds + 4 = omega arith in ap (λ k. 2 ^ k) e ∙ pow-add 2 (4 * length ds) 4) in
    let number = number_from_digits_after 16 (n * 16 + low d) (map low ds) in
    ap (λ p. number / p) power ∙ sym (div-div-eq-div-mul number (2 ^ (4 * length ds)) 16)
    ∙ ap (λ q. q / 16) (above (n * 16 + low d) ds) ∙ div-mul-add n 16 (low d) (omega arith)

-- a shift by four a digit leaves the first ones
first_digits : (n : ℕ) (ds : List ℕ) (k : ℕ)
    → k ≤ length ds → number_from_digits_after 16 n (map low ds) / 2 ^ (4 * length ds - 4 * k) ≡ number_from_digits_after 16 n (take k (map low ds))
first_digits n ds zero le =
    let whole : 4 * length ds - 4 * 0 ≡ 4 * length ds = omega arith in
    ap (λ s. number_from_digits_after 16 n (map low ds) / 2 ^ s) whole ∙ above n ds
first_digits n [] (suc k) le = absurd (omega arith)
first_digits n (d ∷ ds) (suc k) le =
    let shift : 4 * suc (length ds) - 4 * suc k ≡ 4 * length ds - 4 * k = omega arith in
    ap (λ s. number_from_digits_after 16 (n * 16 + low d) (map low ds) / 2 ^ s) shift ∙ first_digits (n * 16 + low d) ds k (omega arith)

-- digits that a text's bytes show
SpellsSoFar-digits : (text ds : List ℕ) (count first : ℕ) → count ≤ length text → count ≤ length ds → 0 < first → glyph first ≡ get_or text 0 0
    → ((i : ℕ) → i < count → (get_or ds i 0 < 16) × (glyph (get_or ds i 0) ≡ get_or text i 0))
    → SpellsSoFar 16 text count (number_from_digits 16 (take count ds))
SpellsSoFar-digits text ds zero first inside within positive is each = SpellsSoFar-none 16 text first positive is
SpellsSoFar-digits text ds (suc k) first inside within positive is each =
    let so_far = SpellsSoFar-digits text ds k first (omega arith) (omega arith) positive is (λ i before. each i (omega arith)) in
    let last = each k (omega arith) in
    rw (← add-one k, number_more 16 ds k (omega arith))
    (SpellsSoFar-more 16 text k _ (get_or ds k 0) (omega arith) (omega arith) so_far last.0 last.1)

-- the first lanes that are digits, as a number
pub numeral-lanes : (text ds : List ℕ) (count first word : ℕ)
    → 16 < length text → length ds ≡ 16 → count ≤ 16 → 0 < count → 0 < first → glyph first ≡ get_or text 0 0
    → ((i : ℕ) → i < count → get_or ds i 0 < 16) → ((i : ℕ) → i < 16 → get_or ds i 0 < 16 → glyph (get_or ds i 0) ≡ get_or (take 16 text) i 0)
    → word ≡ number_from_digits 16 (map low ds) → take count text ≡ numeral 16 (word / 2 ^ (64 - 4 * count))
numeral-lanes text ds count first word long lanes within some positive is small shown word-is =
    let each : (i : ℕ) → i < count → (get_or (map low ds) i 0 < 16) × (glyph (get_or (map low ds) i 0) ≡ get_or text i 0) = λ i before.
    let same : get_or ds i 0 ≡ get_or (map low ds) i 0 = omega (arith, small i before, get_or-map low ds i 0 0 (omega (arith, lanes))) in
    subst (λ d. (d < 16) × (glyph d ≡ get_or text i 0)) same
    (small i before, shown i (omega arith) (small i before) ∙ get_or-take 16 text i 0 (omega arith)) in
    let so_far = SpellsSoFar-digits text (map low ds) count first (omega arith) (omega (arith, length-map ds low, lanes)) positive is each in
    let cut : 4 * length ds - 4 * count ≡ 64 - 4 * count = omega (arith, lanes) in
    so_far.spelled ∙ sym (numeral_some 16 _ (so_far.positive some))
    ∙ ap (numeral 16) (sym (first_digits 0 ds count (omega (arith, lanes))) ∙ (λ i. sym word-is i / 2 ^ cut i))
