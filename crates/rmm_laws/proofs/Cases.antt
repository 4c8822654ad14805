-- What is looked up in a changed map: at the address that was changed, or elsewhere.
use Rattle.rmm_laws.proofs.SoundCommon.{◌&&◌, ◌==◌, ◌∙◌, ◌≡◌, Bool, IsTrue, None, Option, Some, and_parts, eq-eqb, eqb-true, false, false_from_ne_true, if◌then◌else◌, is_some, refl, sym, true, ℕ}
use Rattle.rmm_spec.specs.Update.{is_same_entry}

-- what is not there has no value
pub nothing_there : {A X : Type 0} {x : X} {found : Option X} → found ≡ None → found ≡ Some x → A
nothing_there {A} {X} {x} {found} none some = absurd (let bad : None ≡ Some x = sym none ∙ some in cc)

-- what both sides have, their choice has
pub choice : {A : Type 0} (Has : A → Type 0) (b test : Bool) (x y : A)
    → test ≡ b → (IsTrue test → Has x) → (test ≡ false → Has y) → Has (if test then x else y)
choice Has true test x y is here elsewhere = rw is (here is)
choice Has false test x y is here elsewhere = rw is (elsewhere is)

-- by one address
pub by_address : {A : Type 0} (Has : A → Type 0) (g a : ℕ) (x y : A) → (g ≡ a → Has x) → ((g == a) ≡ false → Has y) → Has (if g == a then x else y)
by_address Has g a x y here elsewhere = choice Has _ (g == a) x y refl (λ same. here (eqb-true g a same)) elsewhere

-- a place that is hit is the one that is meant
pub spot_hit : {A : Type 0} (rd level number other l n : ℕ)
    → IsTrue (is_same_entry rd level number other l n) → (other ≡ rd → l ≡ level → n ≡ number → A) → A
spot_hit rd level number other l n hit here =
    let outer = and_parts (other == rd && l == level) (n == number) hit in
    let inner = and_parts (other == rd) (l == level) outer.0 in
    here (eqb-true other rd inner.0) (eqb-true l level inner.1) (eqb-true n number outer.1)

-- by one place of a table or entry
pub by_spot : {A : Type 0} (Has : A → Type 0) (rd level number other l n : ℕ) (x y : A)
    → (other ≡ rd → l ≡ level → n ≡ number → Has x) → (is_same_entry rd level number other l n ≡ false → Has y)
    → Has (if is_same_entry rd level number other l n then x else y)
by_spot Has rd level number other l n x y here elsewhere =
    choice Has _ (is_same_entry rd level number other l n) x y refl (λ hit. spot_hit rd level number other l n hit here) elsewhere

-- a place is itself
pub spot_itself : (rd level number : ℕ) → is_same_entry rd level number rd level number ≡ true
spot_itself rd level number = rw (eq-eqb rd rd refl, eq-eqb level level refl, eq-eqb number number refl) refl

-- what is looked up where it was put
pub at_itself : {A : Type 0} (a : ℕ) (x y : A) → (if a == a then x else y) ≡ x
at_itself a x y = rw (eq-eqb a a refl) refl

-- a place of another realm
pub spot_other : (rd level number other l n : ℕ) → (other == rd) ≡ false → is_same_entry rd level number other l n ≡ false
spot_other rd level number other l n apart = rw apart refl

-- a place of another level
pub spot_level : (rd level number other l n : ℕ) → (l ≡ level → ⊥) → is_same_entry rd level number other l n ≡ false
spot_level rd level number other l n apart =
    false_from_ne_true _ (λ hit. spot_hit rd level number other l n hit (λ _ same _. apart same))

-- what is there, or was put there, is there
pub some_either : {A : Type 0} (test : Bool) (x : A) (y : Option A) → IsTrue (is_some y) → IsTrue (is_some (if test then Some x else y))
some_either true x y there = refl
some_either false x y there = there

-- what is left was there, and not where something was taken out
pub left_of : {A : Type 0} (taken : Bool) (old : Option A) (x : A) → (if taken then None else old) ≡ Some x → (taken ≡ false) × (old ≡ Some x)
left_of true old x none = nothing_there refl none
left_of false old x at = (refl, at)

-- what was there is left where nothing was taken out
pub left_at : {A : Type 0} (taken : Bool) (old : Option A) (x : A) → taken ≡ false → old ≡ Some x → (if taken then None else old) ≡ Some x
left_at taken old x miss at = rw miss at

-- by two tests, one after the other
pub by_two : {A : Type 0} (Has : A → Type 0) (first second : Bool) (x y z : A)
    → (IsTrue first → Has x) → (first ≡ false → IsTrue second → Has y) → (first ≡ false → second ≡ false → Has z)
    → Has (if first then x else (if second then y else z))
by_two Has true second x y z one two three = one refl
by_two Has false true x y z one two three = two refl refl
by_two Has false false x y z one two three = three refl refl
