-- Values chosen by a test, and searches.
use Rattle.rmm_laws.proofs.Common.{◌&&◌, ◌<◌, ◌==◌, ◌∙◌, ◌≡◌, ◌⊎◌, Bool, Option, Some, and_parts, arith, eqb-true, false, if◌then◌else◌, inl, inr, is_some, refl, suc, sym, true, ℕ}
use Rattle.rmm_spec.specs.Update.{is_same_entry}

-- what is chosen is the one or the other
pub chosen : {A : Type 0} (b : Bool) (x y z : A) → (if b then x else y) ≡ z → ((b ≡ true) × (x ≡ z)) ⊎ ((b ≡ false) × (y ≡ z))
chosen true x y z e = inl (refl, e)
chosen false x y z e = inr (refl, e)

-- what holds of a value holds where another may be chosen, unless that one is chosen and doesn't have it
pub kept_unless : {A : Type 0} {Q : Type 0} (P : A → Type 0) (b : Bool) (x y : A) → P y ⊎ Q → (b ≡ true → P x ⊎ Q) → P (if b then x else y) ⊎ Q
kept_unless P true x y is hit = hit refl
kept_unless P false x y is hit = is

-- what is some value is there
pub there : {A : Type 0} {found : Option A} {x : A} → found ≡ Some x → is_some found ≡ true
there is = rw is refl

-- one value
pub same_value : {A : Type 0} {found : Option A} {x y : A} → found ≡ Some x → found ≡ Some y → x ≡ y
same_value {A} {found} {x} {y} first second = let same : Some x ≡ Some y = sym first ∙ second in cc

-- where one spot is another their parts are
pub spot_parts : (rd level number other l n : ℕ) → is_same_entry rd level number other l n ≡ true → (other ≡ rd) × (l ≡ level) × (n ≡ number)
spot_parts rd level number other l n hit =
    let outer = and_parts (other == rd && l == level) (n == number) hit in
    let inner = and_parts (other == rd) (l == level) outer.0 in
    (eqb-true other rd inner.0, eqb-true l level inner.1, eqb-true n number outer.1)

-- what a map has at one spot and at the other
pub moved : {A : Type 0} (f : ℕ → ℕ → ℕ → A) (rd level number other l n : ℕ)
    → (other ≡ rd) × (l ≡ level) × (n ≡ number) → f rd level number ≡ f other l n
moved f rd level number other l n same = sym (λ i. f (same.0 i) (same.1 i) (same.2 i))

-- a number up to the next one is this one, or is below
pub last_or_below : (k n : ℕ) → k < suc n → (k ≡ n) ⊎ (k < n)
last_or_below k n below = grind arith
