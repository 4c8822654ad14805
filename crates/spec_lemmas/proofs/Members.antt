-- Members of lists: of those that are mapped, filtered, or tested; and the cells that a CPU holds.
use Rattle.std.proofs.Common.{◌≡◌, ℕ, zero, suc, ◌<◌, Bool, true, false, ◌||◌, ◌==◌, if◌then◌else◌, List, [], ◌∷◌, map, length, get_or, Some, slice_get, refl, sym, ap, ◌∙◌, subst, arith, eqb-true}
use Rattle.std.specs.Prelude.{Contains}
use Rattle.std.specs.List.{filter, list_any}
use Rattle.std.proofs.lemmas.Bool.{false≢true}
use Rattle.std.proofs.lemmas.Option.{slice_get_within, get_or_from_slice_get, slice_get-get_or}
use Rattle.std.proofs.lemmas.List.Elements.{All-contains, All-contains_itself, All-filter, All-map, All-weaker}
use Rattle.rmm_spec.specs.Cell.{Cell, put}
use Rattle.rmm_spec.specs.Local.{HeldCell, granules_held, put_all}
use Rattle.lemmas.proofs.Members.{Contains-head, Contains-tail}

-- nothing is in an empty list
pub Contains-nil : {X : Type 0} (x : X) → Contains [] x → ⊥
Contains-nil x has = let within : has.0 < 0 = has.1 in omega arith

pub Contains-from_slice_get : {X : Type 0} (xs : List X) (i : ℕ) (x : X) → slice_get xs i ≡ Some x → Contains xs x
Contains-from_slice_get xs i x is = (i, slice_get_within xs i x is, get_or_from_slice_get xs i x x is)

-- a member has a place
pub slice_get-from_Contains : {X : Type 0} (xs : List X) (x : X) → Contains xs x → (i : ℕ) × (slice_get xs i ≡ Some x)
slice_get-from_Contains xs x has = (has.0, slice_get-get_or xs has.0 x has.1 ∙ ap Some has.2)

-- a member is the first, or a member of the rest
pub Contains-other : {X : Type 0} (first : X) (xs : List X) (x : X) → (first ≡ x → ⊥) → Contains (first ∷ xs) x → Contains xs x
Contains-other first xs x apart has = by has.0 has.1 has.2
  where
    by : (k : ℕ) → k < length (first ∷ xs) → get_or (first ∷ xs) k x ≡ x → Contains xs x
    by zero within is = absurd (apart is)
    by (suc k) within is = (k, omega arith, is)

-- what holds of the one element, or of both, holds of each member
pub each_of_one : {X : Type 0} (P : X → Type 0) (a : X) → P a → (x : X) → Contains (a ∷ []) x → P x
each_of_one P a of_a x has = by has.0 has.1 has.2
  where
    by : (k : ℕ) → k < length (a ∷ []) → get_or (a ∷ []) k x ≡ x → P x
    by zero within is = subst P is of_a
    by (suc k) within is = absurd (let bad : suc k < 1 = within in omega arith)

pub each_of_two : {X : Type 0} (P : X → Type 0) (a b : X) → P a → P b → (x : X) → Contains (a ∷ b ∷ []) x → P x
each_of_two P a b of_a of_b x has = by has.0 has.1 has.2
  where
    by : (k : ℕ) → k < length (a ∷ b ∷ []) → get_or (a ∷ b ∷ []) k x ≡ x → P x
    by zero within is = subst P is of_a
    by (suc zero) within is = subst P is of_b
    by (suc (suc k)) within is = absurd (let bad : suc (suc k) < 2 = within in omega arith)

-- what a filter keeps was there
pub Contains-filter : {X : Type 0} (p : X → Bool) (xs : List X) (x : X) → Contains (filter p xs) x → Contains xs x
Contains-filter p xs x has = All-contains (Contains xs) (filter p xs) x (All-filter p (Contains xs) xs (All-contains_itself xs)) has

-- what a map makes of a member is a member
pub Contains-map : {X Y : Type 0} (f : X → Y) (xs : List X) (x : X) → Contains xs x → Contains (map f xs) (f x)
Contains-map f xs x has = let at = there f xs has.0 x has.1 has.2 in (has.0, at.0, at.1)
  where
    there : {X Y : Type 0} (f : X → Y) (xs : List X) (k : ℕ) (x : X) → k < length xs → get_or xs k x ≡ x
        → (k < length (map f xs)) × (get_or (map f xs) k (f x) ≡ f x)
    there f [] k x within is = absurd (omega arith)
    there f (first ∷ xs) zero x within is = (omega arith, ap f is)
    there f (first ∷ xs) (suc k) x within is = let rest = there f xs k x (omega arith) is in (omega (arith, rest.0), rest.1)

-- a test that some member passes is passed by one
pub passing_member : {X : Type 0} (p : X → Bool) (xs : List X) → list_any p xs ≡ true → (i : ℕ) × (x : X) × (slice_get xs i ≡ Some x) × (p x ≡ true)
passing_member p [] any = absurd (false≢true any)
passing_member p (first ∷ xs) any = by p first xs (p first) refl (passing_member p xs) any
  where
    by : {X : Type 0} (p : X → Bool) (first : X) (xs : List X) (b : Bool) → p first ≡ b
        → (list_any p xs ≡ true → (i : ℕ) × (x : X) × (slice_get xs i ≡ Some x) × (p x ≡ true)) → (b || list_any p xs) ≡ true
        → (i : ℕ) × (x : X) × (slice_get (first ∷ xs) i ≡ Some x) × (p x ≡ true)
    by p first xs true is later found = (0, first, refl, is)
    by p first xs false is later found = let there = later found in (suc there.0, there.1, there.2, there.3)

-- ---- held cells

abbrev pub cells_at : (ℕ → Cell) → List ℕ → List HeldCell
cells_at cells taken = map (λ granule. record { granule = granule; cell = cells granule }) taken

-- a held cell is at a granule that is held, and is the cell there
pub held_cell : (cells : ℕ → Cell) (taken : List ℕ) (h : HeldCell) → Contains (cells_at cells taken) h
    → Contains taken h.granule × (h.cell ≡ cells h.granule)
held_cell cells taken h has =
    All-contains (λ (x : HeldCell). Contains taken x.granule × (x.cell ≡ cells x.granule)) (cells_at cells taken) h
    (All-map (λ (x : HeldCell). Contains taken x.granule × (x.cell ≡ cells x.granule)) (λ (g : ℕ). record { granule = g; cell = cells g }) taken
    (All-weaker (Contains taken) (λ g. Contains taken g × (cells g ≡ cells g)) (λ g has_g. (has_g, refl)) taken (All-contains_itself taken)))
    has

-- each granule that is held is held with the cell there
pub cell_held : (cells : ℕ → Cell) (taken : List ℕ) (granule : ℕ) → Contains taken granule
    → Contains (cells_at cells taken) (record { granule = granule; cell = cells granule })
cell_held cells taken granule has = Contains-map (λ (g : ℕ). record { granule = g; cell = cells g }) taken granule has

pub granules_held-cells_at : (cells : ℕ → Cell) (taken : List ℕ) → granules_held (cells_at cells taken) ≡ taken
granules_held-cells_at cells [] = refl
granules_held-cells_at cells (granule ∷ taken) = ap (λ rest. granule ∷ rest) (granules_held-cells_at cells taken)

-- a granule that isn't among those put in keeps its cell
pub put_all-other : (held : List HeldCell) (cells : ℕ → Cell) (granule : ℕ) → (Contains (granules_held held) granule → ⊥)
    → put_all cells held granule ≡ cells granule
put_all-other [] cells granule apart = refl
put_all-other (h ∷ held) cells granule apart =
    put_all-other held (put cells h.granule h.cell) granule (λ has. apart (Contains-tail h.granule (granules_held held) granule has))
    ∙ first (granule == h.granule) refl
  where
    first : (b : Bool) → (granule == h.granule) ≡ b → (if b then h.cell else cells granule) ≡ cells granule
    first true is =
        absurd (apart (subst (λ g. Contains (h.granule ∷ granules_held held) g) (sym (eqb-true granule h.granule is))
        (Contains-head h.granule (granules_held held))))
    first false is = refl

-- cells that agree at each granule that is held are the same held cells
pub cells_at-same : (old new : ℕ → Cell) (taken : List ℕ) → ((granule : ℕ) → Contains taken granule → new granule ≡ old granule)
    → cells_at new taken ≡ cells_at old taken
cells_at-same old new [] same = refl
cells_at-same old new (granule ∷ taken) same =
    let here : new granule ≡ old granule = same granule (Contains-head granule taken) in
    let rest = cells_at-same old new taken (λ g has. same g (Contains-tail granule taken g has)) in
    λ i. record { granule = granule; cell = here i } ∷ rest i
