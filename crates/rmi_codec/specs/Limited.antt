-- Numbers below a limit.
use Rattle.std.specs.Prelude.{◌≡◌, ℕ, ◌<◌, List, ◌∷◌}
use Rattle.rmm_spec.specs.Text.{decimal}

-- the parts begin with no number below the limit
abbrev pub HasNoNumber : ℕ → List (List ℕ) → Type 0
HasNoNumber limit parts = (n : ℕ) (more : List (List ℕ)) → n < limit → parts ≡ decimal n ∷ more → ⊥
