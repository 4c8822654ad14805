-- A function's number, read as eight bytes at once.
use Rattle.std.proofs.Common.{◌≡◌, ◌⊎◌, inl, inr, ℕ, ◌<◌, ◌≤◌, List, [], ◌∷◌, length, get_or, take, refl, sym, ap, ◌∙◌, arith, lit<}
use Rattle.std.specs.Int.{w64, from_be_bytes, to_be_bytes}
use Rattle.std.proofs.lemmas.Bool.{cases_lt}
use Rattle.std.proofs.lemmas.List.{get_or-take, get_or_past, length-take, length-take-le}
use Rattle.std.proofs.lemmas.Nat.{be_bytes_8}
use Rattle.rmm_spec.specs.declared.function_id.FunctionId.{FunctionId}
use Rattle.rmm_spec.specs.declared.function_id.FunctionId.TheVariants.{GranuleDelegate}
use Rattle.rmm_spec.specs.Function.{number_of}
use Rattle.rmm_spec.specs.Text.{fixed_hex, parts_of}
use Rattle.spec_lemmas.proofs.Texts.{fixed_hex-plain, length-fixed_hex}
use Rattle.rmi_codec.proofs.PrefixLaws.{IsFirstPart-from_parts, cut_at}
use Rattle.rmi_codec.specs.FunctionText.{text_number}
use Rattle.rmi_codec.specs.Spaced.{parts_behind}

-- the text as one number, and back
pub number_of_text : (f : FunctionId)
    → (text_number f ≡ from_be_bytes w64 (fixed_hex 8 (number_of f))) × (to_be_bytes w64 (text_number f) ≡ fixed_hex 8 (number_of f))
unfolding text_number number_of fixed_hex
number_of_text GranuleDelegate = (refl, refl)
number_of_text _ = (refl, refl)

-- the first eight bytes of a line, one by one
abbrev pub first_eight : List ℕ → List ℕ
first_eight line =
    get_or line 0 0 ∷ get_or line 1 0 ∷ get_or line 2 0 ∷ get_or line 3 0 ∷ get_or line 4 0 ∷ get_or line 5 0 ∷ get_or line 6 0 ∷ get_or line 7 0 ∷ []

take_eight : (line : List ℕ) → 8 ≤ length line → first_eight line ≡ take 8 line
take_eight (a ∷ b ∷ c ∷ d ∷ e ∷ f ∷ g ∷ h ∷ line) long = refl
take_eight (a ∷ b ∷ c ∷ d ∷ e ∷ f ∷ g ∷ []) long = absurd (omega arith)
take_eight (a ∷ b ∷ c ∷ d ∷ e ∷ f ∷ []) long = absurd (omega arith)
take_eight (a ∷ b ∷ c ∷ d ∷ e ∷ []) long = absurd (omega arith)
take_eight (a ∷ b ∷ c ∷ d ∷ []) long = absurd (omega arith)
take_eight (a ∷ b ∷ c ∷ []) long = absurd (omega arith)
take_eight (a ∷ b ∷ []) long = absurd (omega arith)
take_eight (a ∷ []) long = absurd (omega arith)
take_eight [] long = absurd (omega arith)

-- each is a byte
front_bytes : (line : List ℕ) → ((i : ℕ) → get_or line i 0 < 256) → (i : ℕ) → get_or (take 8 line) i 0 < 256
front_bytes line bytes i = front_byte (cases_lt i 8) where
  front_byte : (i < 8) ⊎ (8 ≤ i) → get_or (take 8 line) i 0 < 256
  front_byte (inl before) = rw (get_or-take 8 line i 0 before) (bytes i)
  front_byte (inr past) = rw (get_or_past (take 8 line) i 0 (let few = length-take 8 line in omega (arith, few, past))) (lit< tt)

-- a text begins with the function's number that its first eight bytes are
pub function_front : (text : List ℕ) (f : FunctionId) (number : ℕ) → 8 ≤ length text → ((i : ℕ) → get_or text i 0 < 256)
    → number ≡ from_be_bytes w64 (first_eight text) → text_number f ≡ number → take 8 text ≡ fixed_hex 8 (number_of f)
function_front text f number long bytes is spelled =
    let front = be_bytes_8 (take 8 text) (text_number f) (length-take-le 8 text long)
    (front_bytes text bytes) (spelled ∙ is ∙ ap (from_be_bytes w64) (take_eight text long)) in
    sym front ∙ (number_of_text f).1

-- and they are no other's
pub text_number-front : (text : List ℕ) (f : FunctionId)
    → 8 ≤ length text → take 8 text ≡ fixed_hex 8 (number_of f) → text_number f ≡ from_be_bytes w64 (first_eight text)
text_number-front text f long front = (number_of_text f).0 ∙ ap (from_be_bytes w64) (sym front ∙ sym (take_eight text long))

-- a function's number that ends at a place of a line is the first of its parts
pub function_read : (line : List ℕ) (f : FunctionId) → 8 ≤ length line → (8 < length line → get_or line 8 0 ≡ 32)
    → take 8 line ≡ fixed_hex 8 (number_of f) → parts_of line ≡ fixed_hex 8 (number_of f) ∷ parts_behind 8 line
function_read line f long ended same = cut_at line (fixed_hex 8 (number_of f)) 8 (fixed_hex-plain 8 (number_of f)) same long ended _ refl

-- the first part of a line has eight bytes and ends there, where it is one
pub function_alone : (line : List ℕ) (f : FunctionId) (rest : List (List ℕ)) → parts_of line ≡ fixed_hex 8 (number_of f) ∷ rest
    → (8 ≤ length line) × ((8 < length line → get_or line 8 0 ≡ 32) × (take 8 line ≡ fixed_hex 8 (number_of f)))
function_alone line f rest e =
    let is = IsFirstPart-from_parts line (fixed_hex 8 (number_of f)) rest e in
    let eight = length-fixed_hex 8 (number_of f) in (
      omega (arith, eight, is.inside),
      (λ past. sym (ap (λ n. get_or line n 0) eight) ∙ is.end (omega (arith, eight, past)), sym (ap (λ n. take n line) eight) ∙ is.front),
    )
