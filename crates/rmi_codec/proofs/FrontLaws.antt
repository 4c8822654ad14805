-- Texts read from the front, part by part: what stands before each place.
use Rattle.std.proofs.Common.{◌≡◌, Bool, true, false, not, eqb, ℕ, suc, zero, ◌+◌, ◌<◌, ◌≤◌, List, [], ◌∷◌, ◌++◌, map, length, get_or, take, drop, codes, refl, sym, ap, ◌∙◌, arith, append_assoc}
use Rattle.std.specs.Cmp.Lexicographic.{pointwise}
use Rattle.std.proofs.Math.Seq.{take-add}
use Rattle.std.proofs.lemmas.Bool.Decides.{Decides-eqb}
use Rattle.std.proofs.lemmas.List.{append-nil, take_more}
use Rattle.std.proofs.lemmas.Slice.Eq.{slice_eq-Decides}
use Rattle.rmm_spec.specs.Text.{decimal, glyph, line_text, numeral, word}
use Rattle.spec_lemmas.proofs.Texts.{numeral_some, numeral-zero}
use Rattle.rmi_codec.specs.Head.{head_text}
use Rattle.rmi_codec.specs.Spaced.{spaced}
use Rattle.rmi_codec.proofs.NumberLaws.{SpellsSoFar-first}
use Rattle.rmi_codec.proofs.LineTexts.{line_text-spaced}

-- before a later place stands what begins behind the first
pub take-behind : (text : List ℕ) (at count : ℕ) (bytes : List ℕ) → take count (drop at text) ≡ bytes → take (at + count) text ≡ take at text ++ bytes
take-behind text at count bytes is = take-add at count text ∙ ap (λ b. take at text ++ b) is

-- the digit 0 alone
pub zero_front : (base : ℕ) (text : List ℕ) → 2 ≤ length text → get_or text 0 0 ≡ 48 → take 1 text ≡ numeral base 0
zero_front base [] some is = absurd (omega arith)
zero_front base (byte ∷ text) some is = ap (λ b. b ∷ []) is ∙ sym (numeral-zero base)

-- a number below ten is its digit
one_digit : (d : ℕ) → d < 10 → decimal d ≡ glyph d ∷ []
unfolding decimal
one_digit zero small = numeral-zero 10
one_digit (suc d) small =
    let so_far = SpellsSoFar-first 10 (glyph (suc d) ∷ []) (suc d) (omega arith) (omega arith) (omega arith) small refl in
    numeral_some 10 (suc d) (omega arith) ∙ sym so_far.spelled

-- a letter, a CPU of one digit and a number
pub head_front : (text : List ℕ) (cpu number end : ℕ)
    → 4 ≤ length text → get_or text 1 0 ≡ 32 → get_or text 3 0 ≡ 32 → glyph cpu ≡ get_or text 2 0 → cpu < 10
    → take end text ≡ take 4 text ++ numeral 10 number → take end text ≡ head_text (get_or text 0 0) cpu number
unfolding head_text decimal
head_front (letter ∷ one ∷ two ∷ three ∷ text) cpu number end long first second shown small is =
    is ∙ (λ i. letter ∷ first i ∷ sym shown i ∷ second i ∷ numeral 10 number)
    ∙ ap (λ bytes. letter ∷ 32 ∷ (bytes ++ 32 ∷ numeral 10 number)) (sym (one_digit cpu small))
head_front (letter ∷ one ∷ two ∷ []) cpu number end long first second shown small is = absurd (omega arith)
head_front (letter ∷ one ∷ []) cpu number end long first second shown small is = absurd (omega arith)
head_front (letter ∷ []) cpu number end long first second shown small is = absurd (omega arith)
head_front [] cpu number end long first second shown small is = absurd (omega arith)

-- one word more, behind its space
spaced-more : (xs : List ℕ) (w : ℕ) → spaced (map word (xs ++ w ∷ [])) ≡ spaced (map word xs) ++ 32 ∷ word w
spaced-more [] w = ap (λ bytes. 32 ∷ bytes) (append-nil (word w))
spaced-more (x ∷ xs) w =
    ap (λ bytes. 32 ∷ word x ++ bytes) (spaced-more xs w)
    ∙ ap (λ bytes. 32 ∷ bytes) (sym (append_assoc (word x) (spaced (map word xs)) (32 ∷ word w)))

-- the byte at a place follows what stands before it
take_byte : (text : List ℕ) (at byte : ℕ) → at < length text → get_or text at 0 ≡ byte → take (at + 1) text ≡ take at text ++ byte ∷ []
take_byte text at byte inside is = take_more text at 0 inside ∙ ap (λ b. take at text ++ b ∷ []) is

-- words so far, and one more
pub words_more : (text : List ℕ) (at end next : ℕ) (xs : List ℕ) (w : ℕ) → end < length text → get_or text end 0 ≡ 32
    → take end text ≡ take at text ++ spaced (map word xs) → take next text ≡ take (end + 1) text ++ numeral 16 w
    → take next text ≡ take at text ++ spaced (map word (xs ++ w ∷ []))
unfolding word
words_more text at end next xs w inside space so_far is =
    is ∙ ap (λ t. t ++ word w) (take_byte text end 32 inside space ∙ ap (λ t. t ++ 32 ∷ []) so_far)
    ∙ append_assoc (take at text ++ spaced (map word xs)) (32 ∷ []) (word w) ∙ append_assoc (take at text) (spaced (map word xs)) (32 ∷ word w)
    ∙ ap (λ s. take at text ++ s) (sym (spaced-more xs w))

-- a part behind a space, and the parts to the newline
pub line_front : (before whole part : List ℕ) (parts : List (List ℕ)) (front : List ℕ)
    → front ≡ before ++ 32 ∷ part → whole ≡ front ++ (spaced parts ++ 10 ∷ [])
    → whole ≡ before ++ (32 ∷ line_text (part ∷ parts) ++ 10 ∷ [])
line_front before whole part parts front is_front is =
    is ∙ ap (λ f. f ++ (spaced parts ++ 10 ∷ [])) is_front ∙ append_assoc before (32 ∷ part) (spaced parts ++ 10 ∷ [])
    ∙ ap (λ bytes. before ++ 32 ∷ bytes)
    (sym (append_assoc part (spaced parts) (10 ∷ [])) ∙ ap (λ line. line ++ 10 ∷ []) (sym (line_text-spaced part parts)))

-- a part of eight bytes behind a space
pub eight_front : (text : List ℕ) (at : ℕ) (part : List ℕ)
    → at < length text → get_or text at 0 ≡ 32 → take (at + 1 + 8) text ≡ take (at + 1) text ++ part
    → take (at + 9) text ≡ take at text ++ 32 ∷ part
eight_front text at part inside space is =
    let same : at + 9 ≡ at + 1 + 8 = omega arith in
    ap (λ k. take k text) same ∙ is ∙ ap (λ t. t ++ part) (take_byte text at 32 inside space) ∙ append_assoc (take at text) (32 ∷ []) part

-- the form `ok` behind a space
pub ok_front : (rest : List ℕ) → 4 ≤ length rest → get_or rest 0 0 ≡ 32
    → get_or rest 1 0 ≡ 111 → get_or rest 2 0 ≡ 107 → take 3 rest ≡ 32 ∷ codes "ok"
ok_front (a ∷ b ∷ c ∷ rest) long space o k = λ i. space i ∷ o i ∷ k i ∷ []
ok_front (a ∷ b ∷ []) long space o k = absurd (omega arith)
ok_front (a ∷ []) long space o k = absurd (omega arith)
ok_front [] long space o k = absurd (omega arith)

-- the form `err` behind a space, up to a newline
pub pair_front : (text : List ℕ) (at middle end status index : ℕ)
    → take 5 (drop at text) ≡ codes " err " → take middle text ≡ take (at + 5) text ++ numeral 10 status
    → middle < length text → get_or text middle 0 ≡ 32
    → take end text ≡ take (middle + 1) text ++ numeral 10 index → end < length text → get_or text end 0 ≡ 10
    → take (end + 1) text ≡ take at text ++ (32 ∷ line_text (codes "err" ∷ decimal status ∷ decimal index ∷ []) ++ 10 ∷ [])
unfolding decimal
pair_front text at middle end status index front first between space second inside newline =
    let S = numeral 10 status in
    let I = numeral 10 index in
    let before = take at text in
    let one : take middle text ≡ before ++ (codes " err " ++ S) =
    first ∙ ap (λ t. t ++ S) (take-behind text at 5 _ front) ∙ append_assoc before (codes " err ") S in
    let two : take end text ≡ before ++ (codes " err " ++ S ++ 32 ∷ I) =
    second ∙ ap (λ t. t ++ I) (take_byte text middle 32 between space ∙ ap (λ t. t ++ 32 ∷ []) one)
    ∙ append_assoc (before ++ (codes " err " ++ S)) (32 ∷ []) I ∙ append_assoc before (codes " err " ++ S) (32 ∷ I)
    ∙ ap (λ t. before ++ t) (append_assoc (codes " err ") S (32 ∷ I)) in
    take_byte text end 10 inside newline ∙ ap (λ t. t ++ 10 ∷ []) two ∙ append_assoc before (codes " err " ++ S ++ 32 ∷ I) (10 ∷ [])

-- slices that aren't told apart are the same
pub same_from_ne : (xs ys : List ℕ) (same : Bool) → same ≡ pointwise eqb xs ys → false ≡ not same → xs ≡ ys
same_from_ne xs ys true is e = (slice_eq-Decides Decides-eqb xs ys true is).0 refl
same_from_ne xs ys false is e = absurd cc
