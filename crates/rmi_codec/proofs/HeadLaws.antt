-- Which parts begin with no head, as a reader comes to know of them part by part.
use Rattle.std.proofs.Common.{◌≡◌, ◌∙◌, ℕ, List, [], ◌∷◌, sym}
use Rattle.rmi_codec.specs.Head.{HasNoHead, head_parts}
use Rattle.rmi_codec.specs.Limited.{HasNoNumber}
use Rattle.rmm_spec.specs.Text.{decimal}

-- no letter
pub HasNoHead-letter : (cpus calls : ℕ) (parts : List (List ℕ)) → ((letter : ℕ) (rest : List (List ℕ)) → parts ≡ (letter ∷ []) ∷ rest → ⊥)
    → HasNoHead cpus calls parts
HasNoHead-letter cpus calls parts none letter cpu number more few fewer is = none letter (decimal cpu ∷ decimal number ∷ more) is

-- no CPU behind it
pub HasNoHead-cpu : (cpus calls : ℕ) (parts : List (List ℕ)) (part : List ℕ) (rest : List (List ℕ)) → parts ≡ part ∷ rest
    → HasNoNumber cpus rest → HasNoHead cpus calls parts
HasNoHead-cpu cpus calls parts part rest cut none letter cpu number more few fewer is =
    let same : part ∷ rest ≡ head_parts letter cpu number more = sym cut ∙ is in
    none cpu (decimal number ∷ more) few (let e : rest ≡ decimal cpu ∷ decimal number ∷ more = cc in e)

-- no number behind the CPU
pub HasNoHead-number : (cpus calls : ℕ) (parts : List (List ℕ)) (part second : List ℕ) (rest later : List (List ℕ)) → parts ≡ part ∷ rest
    → rest ≡ second ∷ later → HasNoNumber calls later → HasNoHead cpus calls parts
HasNoHead-number cpus calls parts part second rest later cut next none letter cpu number more few fewer is =
    let same : part ∷ rest ≡ head_parts letter cpu number more = sym cut ∙ is in
    none number more fewer (let e : later ≡ decimal number ∷ more = cc in e)
