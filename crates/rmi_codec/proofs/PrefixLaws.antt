-- The number that the first part of a line spells, read without knowing before where the part ends.
use Rattle.std.proofs.Common.{◌≡◌, ◌⊎◌, Bool, if◌then◌else◌, ◌≢◌, ℕ, zero, suc, ◌+◌, ◌*◌, ◌<◌, ◌≤◌, true, false, ◌==◌, List, [], ◌∷◌, ◌++◌, length, map, get_or, take, drop, codes, inl, inr, refl, sym, ap, ◌∙◌, arith, lit<}
use Rattle.std.specs.List.{AllByRecursion}
use Rattle.std.specs.Int.Digits.{digits_of}
use Rattle.std.proofs.Math.Seq.{drop-cons}
use Rattle.std.proofs.lemmas.Bool.{cases_lt}
use Rattle.std.proofs.lemmas.Bool.Decides.{nat_tests}
use Rattle.std.proofs.lemmas.List.{get_or-take, get_or_at, length-append, length-take-le, take_all, take_at, take-append-drop, take-take}
use Rattle.std.proofs.lemmas.List.Elements.{All-from_recursion}
use Rattle.std.proofs.lemmas.List.Splits.{slice_split_none, slice_split_at, length-slice_split}
use Rattle.rmm_spec.specs.Text.{glyph, numeral, line_text, parts_of}
use Rattle.spec_lemmas.proofs.Texts.{IsPlain, IsPart-from_test, glyph-IsPlain, map-glyph-plain, parts_of-line_text, numeral_some, numeral-zero, numeral-IsPart, not_spaces}
use Rattle.rmi_codec.specs.Spaced.{parts_behind}
use Rattle.rmi_codec.proofs.NumberLaws.{SpellsSoFar, SpellsSoFar-none, SpellsSoFar-first, SpellsSoFar-more, le_from_SpellsSoFar, no_numeral-at_byte, no_numeral-leading_zero}
use Rattle.rmi_codec.proofs.PartLaws.{line_text-from_parts, parts_behind-end, parts_behind-space}

-- the part begins the line, and ends with it or at a space
pub record IsFirstPart (line part : List ℕ) : Type 0 where
  pub inside : length part ≤ length line
  pub front : take (length part) line ≡ part
  pub end : length part < length line → get_or line (length part) 0 ≡ 32

-- what stands before a space is one
IsFirstPart-append : (line part tail : List ℕ) → line ≡ part ++ 32 ∷ tail → IsFirstPart line part
IsFirstPart-append line part tail e =
    rw e (record {
      inside = omega (arith, length-append part (32 ∷ tail));
      front = take_at part (32 ∷ tail) (length part) refl;
      end = λ _. get_or_at part 32 tail 0 (length part) refl;
    })

-- the first of a line's parts is one
pub IsFirstPart-from_parts : (line part : List ℕ) (rest : List (List ℕ)) → parts_of line ≡ part ∷ rest → IsFirstPart line part
IsFirstPart-from_parts line part [] e =
    let same : line ≡ part = line_text-from_parts line (part ∷ []) e in
    rw same (record { inside = omega arith; front = take_all (length part) part (omega arith); end = λ h. omega arith })
IsFirstPart-from_parts line part (next ∷ rest) e =
    IsFirstPart-append line part (line_text (next ∷ rest)) (line_text-from_parts line (part ∷ next ∷ rest) e)

-- a glyph is no space
no_space : (base number k : ℕ) → k < length (map glyph (digits_of base number)) → get_or (map glyph (digits_of base number)) k 0 ≢ 32
no_space base number k inside = (All-from_recursion IsPlain _ (map-glyph-plain (digits_of base number)) k 0 inside).0

-- so the digits that are read stand in the first part
SpellsSoFar-within : (base : ℕ) (line part : List ℕ) (count number : ℕ) → count ≤ length line → SpellsSoFar base line count number
    → IsFirstPart line part → (length part < count) ⊎ (count ≤ length part) → count ≤ length part
SpellsSoFar-within base line part count number inside so_far is (inr h) = h
SpellsSoFar-within base line part count number inside so_far is (inl past) =
    let long : length (map glyph (digits_of base number)) ≡ count = ap length (sym so_far.spelled) ∙ length-take-le count line inside in
    absurd (no_space base number (length part) (omega arith)
    (ap (λ bytes. get_or bytes (length part) 0) (sym so_far.spelled) ∙ get_or-take count line (length part) 0 past ∙ is.end (omega arith)))

-- and are the first of its digits
SpellsSoFar-part : (base : ℕ) (line part : List ℕ) (count number : ℕ)
    → count ≤ length part → SpellsSoFar base line count number → IsFirstPart line part → SpellsSoFar base part count number
SpellsSoFar-part base line [] count number inside so_far is = record {
  spelled = ap (take count) (sym is.front) ∙ take-take count 0 line inside ∙ so_far.spelled;
  positive = so_far.positive;
  first = λ e. absurd (omega arith);
}
SpellsSoFar-part base line (byte ∷ part) count number inside so_far is = record {
  spelled = ap (take count) (sym is.front) ∙ take-take count (length (byte ∷ part)) line inside ∙ so_far.spelled;
  positive = so_far.positive;
  first = λ e. so_far.first (sym (get_or-take (length (byte ∷ part)) line 0 0 (omega arith)) ∙ ap (λ bytes. get_or bytes 0 0) is.front ∙ e);
}

-- its bytes are the line's
IsFirstPart-byte : (line part : List ℕ) (k : ℕ) → IsFirstPart line part → k < length part → get_or line k 0 ≡ get_or part k 0
IsFirstPart-byte line part k is inside = sym (get_or-take (length part) line k 0 inside) ∙ ap (λ bytes. get_or bytes k 0) is.front

-- a part that ends at a place of a line is the first, by the test whether the place is the end
pub cut_at : (line part : List ℕ) (end : ℕ) → AllByRecursion IsPlain part → take end line ≡ part
    → end ≤ length line → (end < length line → get_or line end 0 ≡ 32) → (b : Bool)
    → (end == length line) ≡ b → parts_of line ≡ part ∷ (if b then [] else parts_of (drop 1 (drop end line)))
cut_at line part end plain front inside ended true test =
    let last : length line ≤ end = grind (arith, nat_tests) in
    ap (λ bytes. parts_of bytes) (sym (take_all end line last) ∙ front) ∙ slice_split_none (λ byte. byte == 32) part (not_spaces part plain)
cut_at line part end plain front inside ended false test =
    let before : end < length line = grind (arith, nat_tests) in
    let cut = drop-cons line end 0 before in
    let back : drop end line ≡ 32 ∷ drop 1 (drop end line) =
    cut ∙ ap (λ byte. byte ∷ drop (suc end) line) (ended before) ∙ ap (λ rest. 32 ∷ rest) (sym (ap (λ bytes. drop 1 bytes) cut)) in
    let whole : line ≡ part ++ 32 ∷ drop 1 (drop end line) =
    sym (take-append-drop end line) ∙ ap (λ bytes. bytes ++ drop end line) front ∙ ap (λ bytes. part ++ bytes) back in
    ap (λ bytes. parts_of bytes) whole ∙ slice_split_at (λ byte. byte == 32) part 32 (drop 1 (drop end line)) (not_spaces part plain) refl

-- a number that ends at a place of a line is the first of its parts
numeral_read : (base : ℕ) (line : List ℕ) (end number : ℕ) → 2 ≤ base → take end line ≡ numeral base number → end ≤ length line
    → (end < length line → get_or line end 0 ≡ 32) → parts_of line ≡ numeral base number ∷ parts_behind end line
numeral_read base line end number big front inside ended =
    let is_part = numeral-IsPart base number big in
    cut_at line (numeral base number) end is_part.plain front inside ended _ refl

-- the digits so far are a number where they end
pub digits_read : (base : ℕ) (line : List ℕ) (end number : ℕ) → 2 ≤ base → 0 < length line → get_or line 0 0 ≢ 32 → end ≤ length line
    → SpellsSoFar base line end number → (end < length line → get_or line end 0 ≡ 32) → parts_of line ≡ numeral base number ∷ parts_behind end line
digits_read base line zero number big some begun inside so_far ended = absurd (begun (ended some))
digits_read base line (suc end) number big some begun inside so_far ended =
    numeral_read base line (suc end) number big (so_far.spelled ∙ sym (numeral_some base number (so_far.positive (omega arith)))) inside ended

-- and so is the one digit 0
pub zero_read : (base : ℕ) (line : List ℕ) → 2 ≤ base → 0 < length line → get_or line 0 0 ≡ 48
    → (1 < length line → get_or line 1 0 ≡ 32) → parts_of line ≡ numeral base 0 ∷ parts_behind 1 line
zero_read base [] big some first ended = absurd (omega arith)
zero_read base (byte ∷ line) big some first ended =
    numeral_read base (byte ∷ line) 1 0 big (ap (λ b. b ∷ []) first ∙ sym (numeral-zero base)) (omega arith) ended

-- and so is one digit
pub one_digit_read : (base : ℕ) (line : List ℕ) (d : ℕ) → 2 ≤ base → 0 < length line → d < base → glyph d ≡ get_or line 0 0
    → (1 < length line → get_or line 1 0 ≡ 32) → parts_of line ≡ numeral base d ∷ parts_behind 1 line
one_digit_read base line zero big some small is ended = zero_read base line big some (sym is) ended
one_digit_read base line (suc d) big some small is ended =
    digits_read base line 1 (suc d) big some (λ e. (glyph-IsPlain (suc d)).0 (is ∙ e)) some
    (SpellsSoFar-first base line (suc d) big some (omega arith) small is) ended

-- none begins with another byte than a digit
pub no_numeral-at_first : (base : ℕ) (line : List ℕ) (n : ℕ) (rest : List (List ℕ))
    → 2 ≤ base → ((d : ℕ) → d < base → glyph d ≢ get_or line 0 0) → parts_of line ≡ numeral base n ∷ rest → ⊥
no_numeral-at_first base line n rest big none e =
    let is = IsFirstPart-from_parts line (numeral base n) rest e in
    let is_part = numeral-IsPart base n big in
    no_numeral-at_byte base (numeral base n) 0 n big is_part.some
    (λ digit. none digit.0 digit.1 (digit.2 ∙ sym (IsFirstPart-byte line (numeral base n) 0 is is_part.some))) refl

-- no number has no digits
pub no_numeral-at_end : (base : ℕ) (line : List ℕ) (n : ℕ) (rest : List (List ℕ))
    → 2 ≤ base → (0 < length line → get_or line 0 0 ≡ 32) → parts_of line ≡ numeral base n ∷ rest → ⊥
no_numeral-at_end base line n rest big ended e =
    let is = IsFirstPart-from_parts line (numeral base n) rest e in
    let is_part = numeral-IsPart base n big in
    let some = is_part.some in
    let inside = is.inside in
    (All-from_recursion IsPlain (numeral base n) is_part.plain 0 0 some).0
    (sym (IsFirstPart-byte line (numeral base n) 0 is some) ∙ ended (omega arith))

-- none has a leading zero
pub no_numeral-behind_zero : (base : ℕ) (line : List ℕ) (n : ℕ) (rest : List (List ℕ))
    → 2 ≤ base → get_or line 0 0 ≡ 48 → 1 < length line → get_or line 1 0 ≢ 32 → parts_of line ≡ numeral base n ∷ rest → ⊥
no_numeral-behind_zero base line n rest big first long goes_on e =
    let is = IsFirstPart-from_parts line (numeral base n) rest e in
    let is_part = numeral-IsPart base n big in
    no_numeral-leading_zero base (numeral base n) n big (sym (IsFirstPart-byte line (numeral base n) 0 is is_part.some) ∙ first)
    (λ one. goes_on (ap (λ k. get_or line k 0) (sym one) ∙ is.end (omega (arith, one)))) refl

-- a byte that is neither a digit nor a space is in no number, nor behind one
other_byte : (base : ℕ) (line : List ℕ) (end number n : ℕ) (rest : List (List ℕ))
    → 2 ≤ base → end < length line → SpellsSoFar base line end number → ((d : ℕ) → d < base → glyph d ≢ get_or line end 0)
    → get_or line end 0 ≢ 32 → IsFirstPart line (numeral base n) → (end < length (numeral base n)) ⊎ (length (numeral base n) ≤ end) → ⊥
other_byte base line end number n rest big inside so_far none goes_on is (inl before) =
    no_numeral-at_byte base (numeral base n) end n big before
    (λ digit. none digit.0 digit.1 (digit.2 ∙ sym (IsFirstPart-byte line (numeral base n) end is before))) refl
other_byte base line end number n rest big inside so_far none goes_on is (inr past) =
    let within = SpellsSoFar-within base line (numeral base n) end number (omega arith) so_far is (cases_lt _ _) in
    let place : end ≡ length (numeral base n) = omega arith in
    goes_on (ap (λ k. get_or line k 0) place ∙ is.end (omega arith))

-- none has another byte than digits
pub no_numeral-at_other : (base : ℕ) (line : List ℕ) (end number n : ℕ) (rest : List (List ℕ))
    → 2 ≤ base → end < length line → SpellsSoFar base line end number → ((d : ℕ) → d < base → glyph d ≢ get_or line end 0)
    → get_or line end 0 ≢ 32 → parts_of line ≡ numeral base n ∷ rest → ⊥
no_numeral-at_other base line end number n rest big inside so_far none goes_on e =
    other_byte base line end number n rest big inside so_far none goes_on (IsFirstPart-from_parts line (numeral base n) rest e) (cases_lt _ _)

-- none is less than its first digits
pub no_numeral-below : (base : ℕ) (line : List ℕ) (end number d n : ℕ) (rest : List (List ℕ)) → 2 ≤ base → end < length line
    → SpellsSoFar base line end number → d < base → glyph d ≡ get_or line end 0 → n < number * base + d → parts_of line ≡ numeral base n ∷ rest → ⊥
no_numeral-below base line end number d n rest big inside so_far small shown below e =
    let is = IsFirstPart-from_parts line (numeral base n) rest e in
    let more = SpellsSoFar-more base line end number d big inside so_far small shown in
    let within = SpellsSoFar-within base line (numeral base n) (end + 1) (number * base + d) (omega arith) more is (cases_lt _ _) in
    let le = le_from_SpellsSoFar base (numeral base n) (end + 1) (number * base + d) n big
    (SpellsSoFar-part base line (numeral base n) (end + 1) (number * base + d) within more is) refl in
    omega arith

-- none is less than its first digit
pub no_numeral-below_first : (base : ℕ) (line : List ℕ) (d n : ℕ) (rest : List (List ℕ))
    → 2 ≤ base → 0 < length line → d < base → glyph d ≡ get_or line 0 0 → n < d → parts_of line ≡ numeral base n ∷ rest → ⊥
no_numeral-below_first base line d n rest big some small is below e =
    no_numeral-below base line 0 0 d n rest big some (SpellsSoFar-none base line d (omega arith) is) small is (omega (arith, below)) e

-- ---- behind a part

-- the one part of a line is the line
pub numeral_alone : (base : ℕ) (line : List ℕ) (end number : ℕ)
    → end ≡ length line → parts_of line ≡ numeral base number ∷ parts_behind end line → line ≡ numeral base number
numeral_alone base line end number last e =
    line_text-from_parts line (numeral base number ∷ []) (e ∙ ap (λ rest. numeral base number ∷ rest) (parts_behind-end line end last))

-- a number is the one part of its digits
pub parts_of-numeral : (base : ℕ) (line : List ℕ) (n : ℕ) → 2 ≤ base → line ≡ numeral base n → parts_of line ≡ numeral base n ∷ []
parts_of-numeral base line n big e =
    ap (λ bytes. parts_of bytes) e ∙ parts_of-line_text (numeral base n ∷ []) (lit< tt) (numeral-IsPart base n big, tt)

-- so nothing stands behind it
pub no_parts_behind : (base : ℕ) (line : List ℕ) (end number n : ℕ)
    → 2 ≤ base → end ≢ length line → parts_of line ≡ numeral base number ∷ parts_behind end line → line ≡ numeral base n → ⊥
no_parts_behind base line end number n big goes_on read e =
    let both = sym (parts_of-numeral base line n big e) ∙ read ∙ ap (λ rest. numeral base number ∷ rest) (parts_behind-space line end goes_on) in
    omega (arith, ap length both, length-slice_split (λ byte. byte == 32) (drop 1 (drop end line)))

-- ---- the form `ok`

ok_front : (line : List ℕ) → 2 ≤ length line → get_or line 0 0 ≡ 111 → get_or line 1 0 ≡ 107 → take 2 line ≡ codes "ok"
ok_front [] two o k = absurd (omega arith)
ok_front (first ∷ []) two o k = absurd (omega arith)
ok_front (first ∷ second ∷ rest) two o k = λ i. o i ∷ k i ∷ []

-- a line that begins with the two letters and ends there, or goes on with a space
pub ok_read : (line : List ℕ) → 2 ≤ length line → get_or line 0 0 ≡ 111 → get_or line 1 0 ≡ 107
    → (2 < length line → get_or line 2 0 ≡ 32) → parts_of line ≡ codes "ok" ∷ parts_behind 2 line
ok_read line two o k ended = cut_at line (codes "ok") 2 (IsPart-from_test 111 (107 ∷ []) refl).plain (ok_front line two o k) two ended _ refl

-- and no other line has the form as its first part
ok_alone : (line : List ℕ) (rest : List (List ℕ)) → parts_of line ≡ codes "ok" ∷ rest
    → (2 ≤ length line) × (get_or line 0 0 ≡ 111) × (get_or line 1 0 ≡ 107) × (2 < length line → get_or line 2 0 ≡ 32)
ok_alone line rest e =
    let is = IsFirstPart-from_parts line (codes "ok") rest e in
    (is.inside, IsFirstPart-byte line (codes "ok") 0 is (omega arith), IsFirstPart-byte line (codes "ok") 1 is (omega arith), is.end)

pub ok_short : (line : List ℕ) → length line < 2 → (rest : List (List ℕ)) → parts_of line ≢ codes "ok" ∷ rest
ok_short line short rest e = omega (arith, short, (ok_alone line rest e).0)

pub ok_first : (line : List ℕ) → get_or line 0 0 ≢ 111 → (rest : List (List ℕ)) → parts_of line ≢ codes "ok" ∷ rest
ok_first line other rest e = other (ok_alone line rest e).1

pub ok_second : (line : List ℕ) → get_or line 1 0 ≢ 107 → (rest : List (List ℕ)) → parts_of line ≢ codes "ok" ∷ rest
ok_second line other rest e = other (ok_alone line rest e).2

pub ok_end : (line : List ℕ) → 2 < length line → get_or line 2 0 ≢ 32 → (rest : List (List ℕ)) → parts_of line ≢ codes "ok" ∷ rest
ok_end line past other rest e = other ((ok_alone line rest e).3 past)
