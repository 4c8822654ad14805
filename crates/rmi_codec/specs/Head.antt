-- What a line of a history or a certificate begins with.
use Rattle.std.specs.Prelude.{◌≡◌, ℕ, ◌<◌, List, [], ◌∷◌}
use Rattle.rmm_spec.specs.Text.{decimal, line_text}

-- a letter, a CPU and the number of a call
unfoldable pub head_text : ℕ → ℕ → ℕ → List ℕ
head_text letter cpu number = line_text ((letter ∷ []) ∷ decimal cpu ∷ decimal number ∷ [])

-- the parts of a line that begins with them
abbrev pub head_parts : ℕ → ℕ → ℕ → List (List ℕ) → List (List ℕ)
head_parts letter cpu number more = (letter ∷ []) ∷ decimal cpu ∷ decimal number ∷ more

-- the parts begin with no head whose CPU and number are below these limits
abbrev pub HasNoHead : ℕ → ℕ → List (List ℕ) → Type 0
HasNoHead cpus calls parts =
    (letter cpu number : ℕ) (more : List (List ℕ)) → cpu < cpus → number < calls → parts ≡ head_parts letter cpu number more → ⊥
