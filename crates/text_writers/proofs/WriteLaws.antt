-- Texts written part by part: what stands there so far, and what a writer that was refused memory leaves.
use Rattle.std.proofs.Common.{◌≡◌, ℕ, suc, ◌+◌, ◌<◌, ◌≤◌, List, [], ◌∷◌, ◌++◌, map, length, get_or, take, drop, sym, ap, ◌∙◌, arith, Some, append_assoc, length-append, add-one, drop-cons}
use Rattle.std.specs.Prelude.{slice_get}
use Rattle.std.proofs.lemmas.Grind.{common_steps}
use Rattle.std.proofs.lemmas.Option.{slice_get_within, get_or_from_slice_get}
use Rattle.std.proofs.lemmas.List.{length-take, take-append-drop}
use Rattle.rmm_spec.specs.Text.{line_text, lines_text, word}
use Rattle.rmi_codec.specs.Spaced.{spaced}
use Rattle.rmi_codec.proofs.LineTexts.{line_text-spaced}

-- a beginning of a text begins what goes on with it
beginning_goes_on : (new front more : List ℕ) → take (length new) front ≡ new → take (length new) (front ++ more) ≡ new
beginning_goes_on new front more begun = grind (arith, common_steps, ap length begun, length-take (length new) front)

pub begun_append : (new old a b : List ℕ) → take (length new) (old ++ a) ≡ new → take (length new) (old ++ (a ++ b)) ≡ new
begun_append new old a b begun = ap (take (length new)) (sym (append_assoc old a b)) ∙ beginning_goes_on new (old ++ a) b begun

pub begun_cons : (new old a b : List ℕ) (byte : ℕ) → take (length new) (old ++ byte ∷ a) ≡ new → take (length new) (old ++ byte ∷ (a ++ b)) ≡ new
begun_cons new old a b byte begun = begun_append new old (byte ∷ a) b begun

pub ruleset writing = (begun_append, begun_cons, line_text-spaced)

-- what is left to write, cut behind the part that is next
pub record IsCut (left line rest : List ℕ) : Type 0 where
  pub is : left ≡ line ++ rest

-- what is left of some lines, cut behind the first
pub lines_first : {X : Type 0} (parts : X → List (List ℕ)) (left rest : List X) (x : X) → left ≡ x ∷ rest
    → IsCut (lines_text (map parts left)) (line_text (parts x) ++ 10 ∷ []) (lines_text (map parts rest))
lines_first parts left rest x first =
    record { is = ap (λ ys. lines_text (map parts ys)) first ∙ sym (append_assoc (line_text (parts x)) (10 ∷ []) (lines_text (map parts rest))) }

-- what is left of some lines where one of them is next
pub lines_left : {X : Type 0} (parts : X → List (List ℕ)) (xs : List X) (place : ℕ) (x : X) → slice_get xs place ≡ Some x
    → IsCut (lines_text (map parts (drop place xs))) (line_text (parts x) ++ 10 ∷ []) (lines_text (map parts (drop (place + 1) xs)))
lines_left parts xs place x is =
    lines_first parts (drop place xs) (drop (place + 1) xs) x
    (drop-cons xs place x (slice_get_within xs place x is) ∙ ap (λ y. y ∷ drop (suc place) xs) (get_or_from_slice_get xs place x x is)
    ∙ ap (λ k. x ∷ drop k xs) (sym (add-one place)))

-- what is left of some words where one of them is next
pub words_left : (ws : List ℕ) (place : ℕ) → place < length ws
    → IsCut (spaced (map word (drop place ws))) (32 ∷ word (get_or ws place 0)) (spaced (map word (drop (place + 1) ws)))
words_left ws place within =
    record { is = ap (λ xs. spaced (map word xs)) (drop-cons ws place 0 within ∙ ap (λ k. get_or ws place 0 ∷ drop k ws) (sym (add-one place))) }

-- ---- a loop that has written `mid` of a text, where `line` is next: what is written and what is left to write are the whole text

pub written_on : (old mid new text line rest left : List ℕ) → mid ++ left ≡ old ++ text → IsCut left line rest → new ≡ mid ++ line
    → new ++ rest ≡ old ++ text
written_on old mid new text line rest left written next is =
    ap (λ front. front ++ rest) is ∙ append_assoc mid line rest ∙ ap (λ more. mid ++ more) (sym next.is) ∙ written

pub kept_on : (old mid new line : List ℕ) → take (length old) mid ≡ old → new ≡ mid ++ line → take (length old) new ≡ old
kept_on old mid new line kept is = ap (take (length old)) is ∙ beginning_goes_on old mid line kept

-- where a beginning of `line` may have been written
pub kept_after : (old mid new : List ℕ) → take (length old) mid ≡ old → take (length mid) new ≡ mid → take (length old) new ≡ old
kept_after old mid new kept begun =
    kept_on old mid new (drop (length mid) new) kept
    (sym (take-append-drop (length mid) new) ∙ ap (λ front. front ++ drop (length mid) new) begun)

pub begun_after : (old mid new text line rest left : List ℕ) → mid ++ left ≡ old ++ text → IsCut left line rest
    → take (length new) (mid ++ line) ≡ new → take (length new) (old ++ text) ≡ new
begun_after old mid new text line rest left written next begun =
    ap (take (length new)) (sym written ∙ ap (λ more. mid ++ more) next.is) ∙ begun_append new mid line rest begun

-- no room for `line` is none for the text
pub full_after : (old mid text line rest left : List ℕ) (first now had has : ℕ) → mid ++ left ≡ old ++ text → IsCut left line rest
    → had ≡ length old → has ≡ length mid → first ≤ now → now < has + length line → first < had + length text
full_after old mid text line rest left first now had has written next had-is has-is grown full =
    omega (
      arith,
      ap length written,
      ap length next.is,
      length-append mid left,
      length-append old text,
      length-append line rest,
    )
