-- One place of the side table is changed: what it then tells of each VMID and of each realm.
use Rattle.std.proofs.Common.{◌≡◌, ℕ, zero, suc, ◌/◌, ◌%◌, ◌*◌, ◌<◌, ◌≤◌, ◌++◌, [], ◌∷◌, ◌==◌, ◌&&◌, Bool, true, false, if◌then◌else◌, List, length, None, slice_get, slice_set, replicate, IsTrue, nat_lt, refl, sym, ap, ◌∙◌, arith}
use Rattle.std.specs.Prelude.{slice_index}
use Rattle.std.proofs.lemmas.Bool.{false≢true, and_parts, eqb-true, eqb-false, ltb-true, ltb-false}
use Rattle.std.proofs.lemmas.List.{get_or_past, get_or-set_same, get_or-set_other}
use Rattle.rmm_spec.specs.Lookup.{is_granule}
use Rattle.rmm_spec.specs.Cell.{put}
use Rattle.granule_cells.specs.Sides.{listed_at, counted_at}

-- ---- VMIDs

-- no VMID is used
pub listed_at-replicate : (n vmid : ℕ) → listed_at (slice_get (replicate n None) vmid) ≡ None
listed_at-replicate zero vmid = refl
listed_at-replicate (suc n) zero = refl
listed_at-replicate (suc n) (suc vmid) = listed_at-replicate n vmid

-- ---- counts

slice_index-replicate : (n i : ℕ) → slice_index (replicate n 0) i ≡ 0
slice_index-replicate zero i = refl
slice_index-replicate (suc n) zero = refl
slice_index-replicate (suc n) (suc i) = slice_index-replicate n i

-- what is kept of a granule stands within the places
pub place_within : (granule : ℕ) → IsTrue (is_granule 1048576 granule) → granule / 4096 < 1048576
unfolding is_granule
place_within granule is =
    omega (arith, ltb-true granule (1048576 * 4096) (and_parts (granule % 4096 == 0) (nat_lt granule (1048576 * 4096)) is).1)

-- no realm has a REC
pub counted_at-none : (rd : ℕ) → counted_at [] rd ≡ 0
counted_at-none rd = by (rd % 4096 == 0)
  where
    by : (even : Bool) → (if even then slice_index [] (rd / 4096) else 0) ≡ 0
    by true = refl
    by false = refl

-- nothing is counted behind the last
slice_index-more : (items : List ℕ) (n i : ℕ) → slice_index (items ++ replicate n 0) i ≡ slice_index items i
slice_index-more [] n i = slice_index-replicate n i
slice_index-more (x ∷ items) n zero = refl
slice_index-more (x ∷ items) n (suc i) = slice_index-more items n i

pub counted_at-more : (items : List ℕ) (n : ℕ) → counted_at (items ++ replicate n 0) ≡ counted_at items
counted_at-more items n = λ i rd. by rd (rd % 4096 == 0) i
  where
    by : (rd : ℕ) (even : Bool)
        → (if even then slice_index (items ++ replicate n 0) (rd / 4096) else 0) ≡ (if even then slice_index items (rd / 4096) else 0)
    by rd true = slice_index-more items n (rd / 4096)
    by rd false = refl

pub counted_at-set : (items : List ℕ) (rd count : ℕ) → rd / 4096 < length items → IsTrue (is_granule 1048576 rd)
    → counted_at (slice_set items (rd / 4096) count) ≡ put (counted_at items) rd count
unfolding is_granule
counted_at-set items rd count within granule = λ i other. at other (other % 4096 == 0) (other == rd) refl refl i
  where
    parts : IsTrue (rd % 4096 == 0) × IsTrue (nat_lt rd (1048576 * 4096))
    parts = and_parts (rd % 4096 == 0) (nat_lt rd (1048576 * 4096)) granule

    at : (other : ℕ) (even same : Bool) → (other % 4096 == 0) ≡ even → (other == rd) ≡ same
        → (if even then slice_index (slice_set items (rd / 4096) count) (other / 4096) else 0)
        ≡ (if same then count else (if even then slice_index items (other / 4096) else 0))
    at other true true is_even is_same =
        ap (λ k. slice_index (slice_set items (rd / 4096) count) (k / 4096)) (eqb-true other rd is_same)
        ∙ get_or-set_same items (rd / 4096) count 0 within
    at other true false is_even apart =
        get_or-set_other items (rd / 4096) (other / 4096) count 0
        (λ same. eqb-false other rd apart (omega (arith, same, eqb-true (other % 4096) 0 is_even, eqb-true (rd % 4096) 0 parts.0)))
    at other false true is_odd is_same =
        absurd (false≢true (sym is_odd ∙ (ap (λ k. k % 4096 == 0) (eqb-true other rd is_same) ∙ parts.0)))
    at other false false is_odd apart = refl

-- a realm that has RECs is at a granule's address
pub counted-granule : (items : List ℕ) (rd : ℕ) → length items ≤ 1048576 → 0 < counted_at items rd → IsTrue (is_granule 1048576 rd)
unfolding is_granule
counted-granule items rd few has = by (rd % 4096 == 0) refl has
  where
    by : (even : Bool) → (rd % 4096 == 0) ≡ even
        → 0 < (if even then slice_index items (rd / 4096) else 0) → IsTrue (even && nat_lt rd (1048576 * 4096))
    by true is_even some = within (nat_lt rd (1048576 * 4096)) refl some
      where
        within : (b : Bool) → nat_lt rd (1048576 * 4096) ≡ b → 0 < slice_index items (rd / 4096) → IsTrue b
        within true below some = refl
        within false past some =
            let none = get_or_past items (rd / 4096) 0 (omega (arith, few, ltb-false rd (1048576 * 4096) past)) in
            absurd (omega (arith, some, none))
    by false is_odd some = absurd (omega (arith, some))
