-- A part of a line is a line of one part.
use Rattle.std.proofs.Common.{◌≡◌, ℕ, zero, suc, ◌+◌, ◌≤◌, Bool, true, false, ◌==◌, List, [], ◌∷◌, length, drop, refl, sym, ap, ◌∙◌, get_or, subst, arith}
use Rattle.std.specs.List.{AllByRecursion, slice_split, onto_first}
use Rattle.std.proofs.lemmas.List.Elements.{All-from_recursion}
use Rattle.std.proofs.lemmas.List.Splits.{slice_split_none, slice_split-cons_yes, slice_split-cons_no, length-slice_split}
use Rattle.std.proofs.lemmas.List.Sums.{count_by-le-length}
use Rattle.rmm_spec.specs.declared.function_id.FunctionId.{FunctionId}
use Rattle.rmm_spec.specs.Function.{number_of}
use Rattle.rmm_spec.specs.Text.{fixed_hex, parts_of}
use Rattle.spec_lemmas.proofs.Texts.{fixed_hex-injective, number_of-injective, number_of-lt}

abbrev is_space : ℕ → Bool
is_space byte = byte == 32

abbrev HasNoSpace : List ℕ → Type 0
HasNoSpace part = AllByRecursion (λ byte. is_space byte ≡ false) part

onto_first-has_no_space : (byte : ℕ) (parts : List (List ℕ))
    → is_space byte ≡ false → AllByRecursion HasNoSpace parts → AllByRecursion HasNoSpace (onto_first byte parts)
onto_first-has_no_space byte [] h all = ((h, tt), tt)
onto_first-has_no_space byte (part ∷ parts) h all = ((h, all.0), all.1)

split-cases : (byte : ℕ) (line : List ℕ) (b : Bool)
    → is_space byte ≡ b → AllByRecursion HasNoSpace (slice_split is_space line) → AllByRecursion HasNoSpace (slice_split is_space (byte ∷ line))
split-cases byte line true e rest = rw (slice_split-cons_yes is_space byte line e) (tt, rest)
split-cases byte line false e rest = rw (slice_split-cons_no is_space byte line e) (onto_first-has_no_space byte (slice_split is_space line) e rest)

-- no part has a space
split-has_no_space : (line : List ℕ) → AllByRecursion HasNoSpace (slice_split is_space line)
split-has_no_space [] = (tt, tt)
split-has_no_space (byte ∷ line) = split-cases byte line (is_space byte) refl (split-has_no_space line)

at-has_no_space : (parts : List (List ℕ)) (i : ℕ) (part : List ℕ) (more : List (List ℕ))
    → AllByRecursion HasNoSpace parts → drop i parts ≡ part ∷ more → HasNoSpace part
at-has_no_space [] zero part more all e = absurd (cc)
at-has_no_space [] (suc i) part more all e = absurd (cc)
at-has_no_space (first ∷ parts) zero part more all e = let same : first ≡ part = cc in subst HasNoSpace same all.0
at-has_no_space (first ∷ parts) (suc i) part more all e = at-has_no_space parts i part more all.1 e

-- a part of a line is itself a line of one part
pub parts_of-part : (line : List ℕ) (i : ℕ) (part : List ℕ) (more : List (List ℕ)) → drop i (parts_of line) ≡ part ∷ more → parts_of part ≡ part ∷ []
parts_of-part line i part more e =
    slice_split_none is_space part
    (All-from_recursion (λ byte. is_space byte ≡ false) part (at-has_no_space (parts_of line) i part more (split-has_no_space line) e))

-- a line has at most one part more than bytes
pub length-parts_of : (line : List ℕ) → length (parts_of line) ≤ length line + 1
length-parts_of line = omega (arith, length-slice_split is_space line, count_by-le-length is_space line)

-- a part names one function
pub function_same : (part : List ℕ) (rest : List (List ℕ)) (f g : FunctionId)
    → parts_of part ≡ part ∷ [] → parts_of part ≡ fixed_hex 8 (number_of f) ∷ rest
    → part ≡ fixed_hex 8 (number_of g) → f ≡ g
function_same part rest f g alone found is =
    let first : part ≡ fixed_hex 8 (number_of f) = ap (λ ps. get_or ps 0 []) (sym alone ∙ found) in
    number_of-injective f g (fixed_hex-injective 8 (number_of f) (number_of g) (number_of-lt f) (number_of-lt g) (sym first ∙ is))
