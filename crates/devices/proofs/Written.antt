-- One write more of a line.
use Rattle.std.proofs.Common.{arith, ◌≡◌, ◌∙◌, ◌≤◌, ℕ, ◌+◌, ◌-◌, List, ◌++◌, length, take, drop, Option, ap, sym, subst}
use Rattle.std.proofs.Math.Seq.{take-add}
use Rattle.std.specs.Io.KnownBytes.{Appends}
use Rattle.std.proofs.lemmas.List.{append_assoc, length-drop, take_rest}
use Rattle.lemmas.proofs.Appended.{Appends-both}

-- what the device took of the rest lies within the whole
pub within-further : (bytes : List ℕ) (at count : ℕ)
    → at ≤ length bytes → count ≤ length (take (length bytes - at) (drop at bytes)) → at + count ≤ length bytes
within-further bytes at count h k =
    let rest_is : length (take (length bytes - at) (drop at bytes)) ≡ length bytes - at = ap length (take_rest bytes at) ∙ length-drop at bytes in
    omega arith

-- the first bytes of a whole, and then the first of the rest
pub take-further : (before bytes now after : List ℕ) (at count : ℕ) → now ≡ before ++ take at bytes
    → after ≡ now ++ take count (take (length bytes - at) (drop at bytes)) → after ≡ before ++ take (at + count) bytes
take-further before bytes now after at count e f =
    f ∙ ap (λ (xs : List ℕ). xs ++ take count (take (length bytes - at) (drop at bytes))) e
    ∙ ap (λ (xs : List ℕ). before ++ take at bytes ++ take count xs) (take_rest bytes at)
    ∙ append_assoc before (take at bytes) (take count (drop at bytes)) ∙ ap (λ (xs : List ℕ). before ++ xs) (sym (take-add at count bytes))

-- the first bytes of a whole, and then the first of the rest, are held too
pub Appends-further : (bytes : List ℕ) (old middle new : Option (List ℕ)) (at count : ℕ) → Appends old middle (take at bytes)
    → Appends middle new (take count (take (length bytes - at) (drop at bytes))) → Appends old new (take (at + count) bytes)
Appends-further bytes old middle new at count e f =
    subst (Appends old new) (sym (take-add at count bytes))
    (Appends-both old middle new (take at bytes) (take count (drop at bytes)) e
    (subst (λ (xs : List ℕ). Appends middle new (take count xs)) (take_rest bytes at) f))
