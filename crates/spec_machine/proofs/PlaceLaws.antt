-- Places of granules: none is two granules' place, and all are below the count.
use Rattle.std.proofs.Common.{◌≡◌, ◌≢◌, ◌⊎◌, inl, inr, ℕ, zero, suc, ◌+◌, ◌-◌, ◌*◌, ◌/◌, ◌%◌, ◌≤◌, ◌<◌, ◌==◌, Bool, true, false, List, [], ◌∷◌, length, replicate, Some, None, nat_lt, slice_set, refl, sym, ap, ◌∙◌, arith}
use Rattle.std.specs.Prelude.{slice_index_or}
use Rattle.std.proofs.lemmas.Bool.{eqb-false, eqb-true, ltb-false, ltb-true}
use Rattle.std.proofs.lemmas.Bool.Decides.{nat_tests}
use Rattle.std.proofs.lemmas.Option.{none-some, same_Some}
use Rattle.std.proofs.lemmas.List.{get_or-set_other, get_or-set_same}
use Rattle.spec_machine.specs.Unmade.{unmade}
use Rattle.spec_machine.specs.GranulePlace.{far_place, place_by, place_in, count_in}
use Rattle.spec_machine.specs.declared.granule_places.GranulePlaces.{GranulePlaces}

-- ---- blocks without places

pub unmade-replicate : (n : ℕ) → unmade (replicate n 0) ≡ n
unfolding unmade
unmade-replicate zero = refl
unmade-replicate (suc n) = ap suc (unmade-replicate n)

-- the part of a block
abbrev start_at : List ℕ → ℕ → ℕ
start_at starts block = slice_index_or starts block 0

-- no block has places
pub start-replicate : (n block : ℕ) → start_at (replicate n 0) block ≡ 0
start-replicate zero block = refl
start-replicate (suc n) zero = refl
start-replicate (suc n) (suc block) = start-replicate n block

-- one that gets places is one fewer
pub unmade-set : (starts : List ℕ) (block start : ℕ) → block < length starts → 0 < start → slice_index_or starts block 0 ≡ 0
    → unmade (slice_set starts block start) + 1 ≡ unmade starts
unfolding unmade
unmade-set [] block start within some none = absurd (omega (arith, within))
unmade-set (first ∷ starts) block zero within some none = absurd (omega (arith, some))
unmade-set (zero ∷ starts) zero (suc start) within some none = omega arith
unmade-set (suc first ∷ starts) zero (suc start) within some none = absurd (omega (arith, none))
unmade-set (zero ∷ starts) (suc block) (suc start) within some none =
    omega (arith, unmade-set starts block (suc start) (omega (arith, within)) some none)
unmade-set (suc first ∷ starts) (suc block) (suc start) within some none = unmade-set starts block (suc start) (omega (arith, within)) some none

-- the part of a block after one got places
start-set : (starts : List ℕ) (block start other : ℕ) → block < length starts
    → ((other ≡ block) × (slice_index_or (slice_set starts block start) other 0 ≡ start))
    ⊎ ((other ≢ block) × (slice_index_or (slice_set starts block start) other 0 ≡ slice_index_or starts other 0))
start-set starts block start other within = by (other == block) refl
  where
    by : (b : Bool) → (other == block) ≡ b → ((other ≡ block) × (slice_index_or (slice_set starts block start) other 0 ≡ start))
        ⊎ ((other ≢ block) × (slice_index_or (slice_set starts block start) other 0 ≡ slice_index_or starts other 0))
    by true same =
        let here = eqb-true other block same in
        inl (here, ap (λ k. slice_index_or (slice_set starts block start) k 0) here ∙ get_or-set_same starts block start 0 within)
    by false apart =
        let elsewhere = eqb-false other block apart in
        inr (elsewhere, get_or-set_other starts block other start 0 elsewhere)

pub below-set : (starts : List ℕ) (block start : ℕ) → block < length starts → ((a : ℕ) → slice_index_or starts a 0 < start)
    → (a : ℕ) → slice_index_or (slice_set starts block start) a 0 ≤ start
below-set starts block start within below a = elim (start-set starts block start a within) [
  | inl here ↦ omega (arith, here.1)
  | inr apart ↦ omega (arith, apart.1, below a)
]

pub apart-set : (starts : List ℕ) (block start : ℕ) → block < length starts → ((a : ℕ) → slice_index_or starts a 0 < start)
    → ((a b : ℕ) → 0 < slice_index_or starts a 0 → slice_index_or starts a 0 ≡ slice_index_or starts b 0 → a ≡ b)
    → (a b : ℕ) → 0 < slice_index_or (slice_set starts block start) a 0
    → slice_index_or (slice_set starts block start) a 0 ≡ slice_index_or (slice_set starts block start) b 0 → a ≡ b
apart-set starts block start within below apart a b some same = elim (start-set starts block start a within) [
  | inl a_here ↦ elim (start-set starts block start b within) [
    | inl b_here ↦ a_here.0 ∙ sym b_here.0
    | inr b_apart ↦ absurd (omega (arith, same, a_here.1, b_apart.1, below b))
  ]
  | inr a_apart ↦ elim (start-set starts block start b within) [
    | inl b_here ↦ absurd (omega (arith, same, a_apart.1, b_here.1, below a))
    | inr b_apart ↦ apart a b (omega (arith, some, a_apart.1)) (sym a_apart.1 ∙ same ∙ b_apart.1)
  ]
]

-- ---- places

far_place-suc : (near far start place : ℕ) → far_place near far start ≡ Some place → (s : ℕ) × (start ≡ suc s) × (place ≡ near + 512 * s + far % 512)
far_place-suc near far zero place is = absurd (none-some place is)
far_place-suc near far (suc s) place is = (s, refl, sym (same_Some (near + 512 * s + far % 512) place is))

far_place-zero : (near far start : ℕ) → far_place near far start ≡ None → start ≡ 0
far_place-zero near far zero is = refl
far_place-zero near far (suc s) is = absurd (none-some (near + 512 * s + far % 512) (sym is))

-- a place is that of one of the first granules, or in a block's part
abbrev IsPlaced : ℕ → ℕ → List ℕ → ℕ → ℕ → Type 0
IsPlaced near granules starts n place = ((n < near) × (place ≡ n)) ⊎ ((near ≤ n) × (n < granules)
    × ((s : ℕ) × (slice_index_or starts ((n - near) / 512) 0 ≡ suc s) × (place ≡ near + 512 * s + (n - near) % 512)))

placed : (near granules : ℕ) (starts : List ℕ) (n place : ℕ) → place_by near granules starts n ≡ Some place → IsPlaced near granules starts n place
placed near granules starts n place is = by (nat_lt n near) refl
  where
    far : nat_lt n near ≡ false → (b : Bool) → nat_lt n granules ≡ b → IsPlaced near granules starts n place
    far past true within =
        inr (
          ltb-false n near past,
          ltb-true n granules within,
          far_place-suc near (n - near) (slice_index_or starts ((n - near) / 512) 0) place (rw (past, within) at is),
        )
    far past false beyond = absurd (none-some place (rw (past, beyond) at is))

    by : (b : Bool) → nat_lt n near ≡ b → IsPlaced near granules starts n place
    by true below = inl (ltb-true n near below, sym (same_Some n place (rw below at is)))
    by false past = far past (nat_lt n granules) refl

pub near-place : (near granules : ℕ) (starts : List ℕ) (n : ℕ) → n < near → place_by near granules starts n ≡ Some n
near-place near granules starts n below = (let is : nat_lt n near ≡ true = grind (arith, nat_tests) in rw is refl)

pub beyond-place : (near granules : ℕ) (starts : List ℕ) (n : ℕ) → near ≤ n → granules ≤ n → place_by near granules starts n ≡ None
beyond-place near granules starts n past beyond =
    let is : nat_lt n near ≡ false = grind (arith, nat_tests) in
    let none : nat_lt n granules ≡ false = grind (arith, nat_tests) in
    rw (is, none) refl

pub far-place : (near granules : ℕ) (starts : List ℕ) (n : ℕ) → near ≤ n → n < granules
    → place_by near granules starts n ≡ far_place near (n - near) (slice_index_or starts ((n - near) / 512) 0)
far-place near granules starts n past within =
    let is : nat_lt n near ≡ false = grind (arith, nat_tests) in
    let some : nat_lt n granules ≡ true = grind (arith, nat_tests) in
    rw (is, some) refl

-- a granule without a place is in a block without places
pub unplaced : (near granules : ℕ) (starts : List ℕ) (n : ℕ) → n < granules → place_by near granules starts n ≡ None
    → (near ≤ n) × (slice_index_or starts ((n - near) / 512) 0 ≡ 0)
unplaced near granules starts n within none = by (nat_lt n near) refl
  where
    by : (b : Bool) → nat_lt n near ≡ b → (near ≤ n) × (slice_index_or starts ((n - near) / 512) 0 ≡ 0)
    by true below = absurd (none-some n (sym none ∙ near-place near granules starts n (ltb-true n near below)))
    by false past =
        let least = ltb-false n near past in
        (least, far_place-zero near (n - near) _ (sym (far-place near granules starts n least within) ∙ none))

-- and it has one once its block has
pub made-place : (near granules : ℕ) (starts : List ℕ) (made n : ℕ) → near ≤ n → n < granules → (n - near) / 512 < length starts
    → place_by near granules (slice_set starts ((n - near) / 512) (made + 1)) n ≡ Some (near + 512 * made + (n - near) % 512)
made-place near granules starts made n past below within =
    far-place near granules (slice_set starts ((n - near) / 512) (made + 1)) n past below
    ∙ ap (far_place near (n - near))
    (get_or-set_same starts ((n - near) / 512) (made + 1) 0 within ∙ (let one : made + 1 ≡ suc made = omega arith in one))

-- what had a place keeps it when a block without places gets some
pub kept-place : (near granules : ℕ) (starts : List ℕ) (block start n place : ℕ) → block < length starts → slice_index_or starts block 0 ≡ 0
    → place_by near granules starts n ≡ Some place → place_by near granules (slice_set starts block start) n ≡ Some place
kept-place near granules starts block start n place within none is = elim (placed near granules starts n place is) [
  | inl first ↦ near-place near granules (slice_set starts block start) n first.0 ∙ ap Some (sym first.1)
  | inr far ↦ elim (start-set starts block start ((n - near) / 512) within) [
    | inl here ↦ absurd (omega (arith, none, ap (λ k. slice_index_or starts k 0) here.0, far.2.1))
    | inr apart ↦ far-place near granules (slice_set starts block start) n far.0 far.1 ∙ ap (far_place near (n - near)) apart.1
        ∙ sym (far-place near granules starts n far.0 far.1) ∙ is
  ]
]

-- and whatever else has one then has it behind the others
pub fresh-place : (near granules : ℕ) (starts : List ℕ) (block made n place : ℕ) → block < length starts
    → place_by near granules (slice_set starts block (made + 1)) n ≡ Some place
    → (place_by near granules starts n ≡ Some place) ⊎ (near + 512 * made ≤ place)
fresh-place near granules starts block made n place within is = elim (placed near granules (slice_set starts block (made + 1)) n place is) [
  | inl first ↦ inl (near-place near granules starts n first.0 ∙ ap Some (sym first.1))
  | inr far ↦ elim (start-set starts block (made + 1) ((n - near) / 512) within) [
    | inl here ↦ inr (omega (arith, here.1, far.2.1, far.2.2))
    | inr apart ↦ inl (far-place near granules starts n far.0 far.1 ∙ ap (far_place near (n - near)) (sym apart.1)
        ∙ sym (far-place near granules (slice_set starts block (made + 1)) n far.0 far.1) ∙ is)
  ]
]

pub place-within : (places : GranulePlaces) (n place : ℕ) → place_in places n ≡ Some place → place < count_in places
unfolding place_in count_in
place-within places n place is = elim (placed places.near places.granules places.starts.items n place is) [
  | inl first ↦ omega (arith, first.0, first.1)
  | inr far ↦ omega (arith, far.2.1, far.2.2, places.below ((n - places.near) / 512))
]

pub place-apart : (places : GranulePlaces) (a b place : ℕ) → place_in places a ≡ Some place → place_in places b ≡ Some place → a ≡ b
unfolding place_in
place-apart places a b place of_a of_b = elim (placed places.near places.granules places.starts.items a place of_a) [
  | inl first ↦ elim (placed places.near places.granules places.starts.items b place of_b) [
    | inl second ↦ sym first.1 ∙ second.1
    | inr far ↦ absurd (omega (arith, first.0, first.1, far.2.2))
  ]
  | inr one ↦ elim (placed places.near places.granules places.starts.items b place of_b) [
    | inl second ↦ absurd (omega (arith, second.0, second.1, one.2.2))
    | inr two ↦
        let part : one.2.0 ≡ two.2.0 = omega (arith, one.2.2, two.2.2) in
        let block = places.apart ((a - places.near) / 512) ((b - places.near) / 512) (omega (arith, one.2.1)) (one.2.1 ∙ ap suc part ∙ sym two.2.1) in
        omega (arith, one.0, two.0, one.2.2, two.2.2, part, block)
  ]
]

-- only granules have places
pub place-granule : (places : GranulePlaces) (n place : ℕ) → place_in places n ≡ Some place → n < places.granules
unfolding place_in
place-granule places n place is = elim (placed places.near places.granules places.starts.items n place is) [
  | inl first ↦ omega (arith, first.0, places.first)
  | inr far ↦ far.1
]
