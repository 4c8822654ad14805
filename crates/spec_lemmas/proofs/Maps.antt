-- A map with one value put in: what it has there, and elsewhere.
use Rattle.std.proofs.Common.{◌≡◌, ℕ, Bool, true, false, ◌==◌, if◌then◌else◌, refl, sym, ◌∙◌, ap, eqb-true, eq-eqb}
use Rattle.rmm_spec.specs.Cell.{put}

-- what holds of the value put in, and of the map elsewhere, holds of the map with it put in
pub put_elim : {A : Type 0} (P : A → Type 0) (values : ℕ → A) (key : ℕ) (value : A) (other : ℕ)
    → (other ≡ key → P value) → ((other == key) ≡ false → P (values other)) → P (put values key value other)
put_elim {A} P values key value other same apart = by (other == key) refl
  where
    by : (b : Bool) → (other == key) ≡ b → P (if b then value else values other)
    by true is = same (eqb-true other key is)
    by false is = apart is

-- a map with a value put in is the same elsewhere
pub put-other : {A : Type 0} (values : ℕ → A) (key : ℕ) (value : A) (other : ℕ) → (other ≡ key → ⊥) → put values key value other ≡ values other
put-other values key value other apart = put_elim (λ v. v ≡ values other) values key value other (λ same. absurd (apart same)) (λ is. refl)

-- what is there already changes nothing
pub put-same : {A : Type 0} (values : ℕ → A) (key : ℕ) (value : A) → values key ≡ value → put values key value ≡ values
put-same {A} values key value is = λ i other. at other i
  where
    at : (other : ℕ) → put values key value other ≡ values other
    at other = put_elim (λ v. v ≡ values other) values key value other (λ same. sym is ∙ ap values (sym same)) (λ apart. refl)

pub put-elsewhere : {A : Type 0} (values : ℕ → A) (key : ℕ) (value : A) (other : ℕ)
    → (other == key) ≡ false → put values key value other ≡ values other
put-elsewhere values key value other apart = rw apart refl

pub put-here : {A : Type 0} (values : ℕ → A) (key : ℕ) (value : A) → put values key value key ≡ value
put-here values key value = rw (eq-eqb key key refl) refl
