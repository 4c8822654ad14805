-- Address spaces that a realm can have: their halves in entries of a level, and their roots.
use Rattle.rmm_laws.proofs.SoundCommon.{◌&&◌, ◌*◌, ◌+◌, ◌-◌, ◌/◌, ◌<◌, ◌==◌, ◌≡◌, ◌≤◌, Assigned, Entry, IsLeafOf, IsTrue, RealmRecord, Unassigned, UnassignedNs, and_parts, arith, eqb-true, if◌then◌else◌, inl, inr, nat_lt, refl, suc, zero, ℕ}
use Rattle.std.proofs.Common.{◌^◌, ◌⊎◌}
use Rattle.std.proofs.lemmas.Bool.{or_cases, ltb-true, ltb-false}
use Rattle.std.proofs.Math.Nat.{mul-le-mul_left}
use Rattle.std.proofs.lemmas.Nat.{pow_pos}
use Rattle.rmm_spec.specs.declared.tag.Ripas.TheVariants.{Empty}
use Rattle.rmm_spec.specs.Walk.{entry_size, half}
use Rattle.rmm_spec.specs.Step.Terms.{is_space}
use Rattle.rmm_spec.specs.Sound.{IsTableOf}
use Rattle.rmm_spec.specs.Applicable.{IsVacant}
use Rattle.rmm_laws.proofs.Cases.{choice}

-- 39 bits from level 1, or 48 bits from level 0
pub space_cases : (width level : ℕ) → IsTrue (is_space width level) → ((width ≡ 39) × (level ≡ 1)) ⊎ ((width ≡ 48) × (level ≡ 0))
space_cases width level space = elim (or_cases (width == 39 && level == 1) (width == 48 && level == 0) space) [
  | inl small ↦ (let parts = and_parts (width == 39) (level == 1) small in inl (eqb-true width 39 parts.0, eqb-true level 1 parts.1))
  | inr large ↦ (let parts = and_parts (width == 48) (level == 0) large in inr (eqb-true width 48 parts.0, eqb-true level 0 parts.1))
]

-- a root lies at a level of its own
pub root_is_table : (r : RealmRecord) → IsTrue (is_space r.width r.start_level) → (level number : ℕ)
    → level ≡ r.start_level → number ≡ 0 → IsTableOf r level number
root_is_table r space level number at first = elim (space_cases r.width r.start_level space) [
  | inl small ↦ record {
    below_root = omega arith;
    last = omega (arith, small.1);
    inside = rw first (rw small.0 (omega arith));
  }
  | inr large ↦ record {
    below_root = omega arith;
    last = omega (arith, large.1);
    inside = rw first (rw large.0 (omega arith));
  }
]

-- 38 bits in entries of each level from 1 on
small_half : (level : ℕ) → 1 ≤ level → level ≤ 3 → 2 ^ 38 ≡ 2 ^ (38 - (12 + 9 * (3 - level))) * 2 ^ (12 + 9 * (3 - level))
small_half zero above last = absurd (omega arith)
small_half (suc zero) above last = refl
small_half (suc (suc zero)) above last = refl
small_half (suc (suc (suc zero))) above last = refl
small_half (suc (suc (suc (suc level)))) above last = absurd (omega arith)

-- 47 bits in entries of each level
large_half : (level : ℕ) → level ≤ 3 → 2 ^ 47 ≡ 2 ^ (47 - (12 + 9 * (3 - level))) * 2 ^ (12 + 9 * (3 - level))
large_half zero last = refl
large_half (suc zero) last = refl
large_half (suc (suc zero)) last = refl
large_half (suc (suc (suc zero))) last = refl
large_half (suc (suc (suc (suc level)))) last = absurd (omega arith)

-- the protected half is a number of entries of each level from the root's on
pub half_in_entries : (r : RealmRecord) → IsTrue (is_space r.width r.start_level) → (level : ℕ) → r.start_level ≤ level → level ≤ 3
    → (count : ℕ) × (half r ≡ count * entry_size level)
unfolding entry_size
half_in_entries r space level above last = elim (space_cases r.width r.start_level space) [
  | inl small ↦ (2 ^ (38 - (12 + 9 * (3 - level))), rw small.0 (small_half level (omega (arith, small.1)) last))
  | inr large ↦ (2 ^ (47 - (12 + 9 * (3 - level))), rw large.0 (large_half level last))
]

-- half of a root's entries are of the protected half
root_half : (r : RealmRecord) → IsTrue (is_space r.width r.start_level) → half r ≡ 256 * entry_size r.start_level
unfolding entry_size
root_half r space = elim (space_cases r.width r.start_level space) [
  | inl small ↦ rw (small.0, small.1) refl
  | inr large ↦ rw (large.0, large.1) refl
]

-- no entry is empty
pub entry_size-pos : (level : ℕ) → 1 ≤ entry_size level
unfolding entry_size
entry_size-pos level = pow_pos (12 + 9 * (3 - level))

-- products by one size keep an order
pub scaled_lt : (a b size : ℕ) → a < b → 1 ≤ size → a * size < b * size
scaled_lt a b size below pos =
    let scaled : size * (a + 1) ≤ size * b = mul-le-mul_left size (let up : a + 1 ≤ b = omega arith in up) in omega arith

-- and an order that may be equal
pub scaled_le : (a b size : ℕ) → a ≤ b → a * size ≤ b * size
scaled_le a b size below = let scaled : size * a ≤ size * b = mul-le-mul_left size below in omega arith

-- and tell it
pub unscaled_lt : (a b size : ℕ) → a * size < b * size → a < b
unscaled_lt a b size scaled =
    let cases : (a < b) ⊎ (b ≤ a) = grind arith in
    elim cases [
      | inl less ↦ less
      | inr more ↦ absurd (let back : b * size ≤ a * size = scaled_le b a size more in omega arith)
    ]

-- and from one that may be equal
pub unscaled_le : (a b size : ℕ) → a * size ≤ b * size → 1 ≤ size → a ≤ b
unscaled_le a b size scaled pos =
    let cases : (a ≤ b) ⊎ (b < a) = grind arith in
    elim cases [
      | inl less ↦ less
      | inr more ↦ absurd (let back : b * size < a * size = scaled_lt b a size more pos in omega arith)
    ]

-- an entry covers what 512 of the next level do
pub entry_size-suc : (up : ℕ) → suc up ≤ 3 → entry_size up ≡ 512 * entry_size (suc up)
unfolding entry_size
entry_size-suc zero last = refl
entry_size-suc (suc zero) last = refl
entry_size-suc (suc (suc zero)) last = refl
entry_size-suc (suc (suc (suc up))) last = absurd (omega arith)

-- a new root's entries fit their halves
pub root_leaf : (r : RealmRecord) → IsTrue (is_space r.width r.start_level) → (level number : ℕ) → level ≡ r.start_level
    → IsLeafOf (if nat_lt number 256 then Unassigned Empty else UnassignedNs) r level number
root_leaf r space level number at =
    let size = entry_size r.start_level in
    choice (λ e. IsLeafOf e r level number) _ (nat_lt number 256) (Unassigned Empty) UnassignedNs refl
    (λ lower. rw at (rw (root_half r space) (scaled_lt number 256 size (ltb-true number 256 lower) (entry_size-pos r.start_level))))
    (λ upper. rw at (rw (root_half r space) (scaled_le 256 number size (ltb-false number 256 upper))))

-- the entries of a new table fit as the entry did that they are copies of
pub copies_fit : (e : Entry) (r : RealmRecord) → IsTrue (is_space r.width r.start_level) → (up number n : ℕ) → IsVacant e
    → r.start_level ≤ up → suc up ≤ 3 → n / 512 ≡ number → IsLeafOf e r up number → IsLeafOf e r (suc up) n
copies_fit (Unassigned ripas) r space up number n vacant above last in_table fits =
    let count = half_in_entries r space up above (omega arith) in
    let size : entry_size up ≡ 512 * entry_size (suc up) = entry_size-suc up last in
    let below : number < count.0 = unscaled_lt number count.0 (entry_size up) (rw count.1 at fits) in
    let first : n < count.0 * 512 = omega arith in
    let scaled : n * entry_size (suc up) < count.0 * 512 * entry_size (suc up) =
    scaled_lt n (count.0 * 512) (entry_size (suc up)) first (entry_size-pos (suc up)) in
    rw (count.1, size) (omega arith)
copies_fit UnassignedNs r space up number n vacant above last in_table fits =
    let count = half_in_entries r space up above (omega arith) in
    let size : entry_size up ≡ 512 * entry_size (suc up) = entry_size-suc up last in
    let from : count.0 ≤ number = unscaled_le count.0 number (entry_size up) (rw count.1 at fits) (entry_size-pos up) in
    let first : count.0 * 512 ≤ n = omega arith in
    let scaled : count.0 * 512 * entry_size (suc up) ≤ n * entry_size (suc up) = scaled_le (count.0 * 512) n (entry_size (suc up)) first in
    rw (count.1, size) (omega arith)
copies_fit (Assigned ripas granule) r space up number n vacant above last in_table fits = absurd vacant
copies_fit _ r space up number n vacant above last in_table fits = absurd vacant
