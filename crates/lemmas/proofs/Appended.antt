-- Texts that are written one after the other.
use Rattle.std.proofs.Common.{ℕ, List, ◌++◌, Option, Some, None, ap, ◌∙◌, append_assoc}
use Rattle.std.specs.Io.KnownBytes.{Appends}

-- one piece behind the other
pub Appends-both : (old middle new : Option (List ℕ)) (front back : List ℕ) → Appends old middle front → Appends middle new back
    → Appends old new (front ++ back)
Appends-both None middle new front back e f = tt
Appends-both (Some old) None new front back e f = absurd e
Appends-both (Some old) (Some middle) None front back e f = absurd f
Appends-both (Some old) (Some middle) (Some new) front back e f =
    f ∙ ap (λ (xs : List ℕ). xs ++ back) e ∙ append_assoc old front back
