-- What is kept of each granule, read and changed at its place.
use Rattle.spec_machine.proofs.Common.{◌%◌, ◌*◌, ◌++◌, ◌/◌, ◌<◌, ◌==◌, ◌∙◌, ◌∷◌, ◌≡◌, Bool, HeldCells, IsTrue, List, None, Option, Some, [], ap, arith, eqb-true, false, if◌then◌else◌, inl, inr, is_granule, length, lt-ltb, nat_lt, none-some, place_in, put, refl, replicate, slice_get, slice_index_or, suc, sym, true, zero, ℕ}
use Rattle.std.proofs.Common.{◌≢◌, ◌&&◌, slice_set}
use Rattle.std.specs.Prelude.{option_map, unwrap_or}
use Rattle.std.proofs.lemmas.Bool.{and_from, and_parts, eq-eqb, eqb-false, ltb-false, ltb-true}
use Rattle.std.proofs.lemmas.List.{get_or-replicate, get_or-set_other, get_or-set_same, get_or_past, length-replicate}
use Rattle.lemmas.proofs.Tests.{both_ways}
use Rattle.rmm_spec.specs.Cell as spec
use Rattle.spec_machine.specs.declared.granule_places.GranulePlaces.{GranulePlaces}
use Rattle.spec_machine.specs.GranulePlace.{count_in, IsFurther}
use Rattle.spec_machine.proofs.PlaceLaws.{place-apart}
use Rattle.granule_cells.specs.declared.cpu_place.CpuPlace.{CpuPlace}
use Rattle.granule_cells.specs.declared.cpu_place.CpuPlace.TheVariants.{Outside}
use Rattle.granule_cells.specs.Seen.{place_of}
use Rattle.rmm_laws.specs.Whole.{changed_at}
use Rattle.spec_machine.specs.Held.{cell_at, changed_in}
use Rattle.spec_machine.specs.Whole.{cells_in, placed_at, places_in}

-- what is read at a place, or what is there
pub read_or : {A B : Type 0} (f : A → B) (items : List A) (i : ℕ) (default : A)
    → unwrap_or (option_map f (slice_get items i)) (f default) ≡ f (slice_index_or items i default)
read_or f [] i default = refl
read_or f (x ∷ items) zero default = refl
read_or f (x ∷ items) (suc i) default = read_or f items i default

-- ---- granules and their places

-- a granule is at its place
pub place-granule : (granules address : ℕ) → IsTrue (is_granule granules address) → (address / 4096) * 4096 ≡ address
unfolding is_granule
place-granule granules address granule =
    let parts = and_parts (address % 4096 == 0) (nat_lt address (granules * 4096)) granule in
    omega (arith, eqb-true (address % 4096) 0 parts.0)

-- the granule of a place
pub granule_placed : (granules place : ℕ) → place < granules → IsTrue (is_granule granules (place * 4096))
unfolding is_granule
granule_placed granules place within =
    and_from ((place * 4096) % 4096 == 0) (nat_lt (place * 4096) (granules * 4096))
    (eq-eqb ((place * 4096) % 4096) 0 (omega arith)) (lt-ltb (place * 4096) (granules * 4096) (omega arith))

-- no two granules have one number
number-apart : (granules a b : ℕ) → IsTrue (is_granule granules a) → IsTrue (is_granule granules b) → a / 4096 ≡ b / 4096 → a ≡ b
number-apart granules a b first second same =
    sym (place-granule granules a first) ∙ ap (λ place. place * 4096) same ∙ place-granule granules b second

-- ---- lists of items

-- equal items are read everywhere
pub get_or-replicate_all : {A : Type 0} → (n i : ℕ) (item : A) (b : Bool) → nat_lt i n ≡ b → slice_index_or (replicate n item) i item ≡ item
get_or-replicate_all n i item true below = get_or-replicate n i item item (ltb-true i n below)
get_or-replicate_all n i item false past =
    get_or_past (replicate n item) i item (omega (arith, ltb-false i n past, length-replicate n item))

-- what is read past the last may as well stand there
pub read-more : {A : Type 0} → (items : List A) (n i : ℕ) (default : A)
    → slice_index_or (items ++ replicate n default) i default ≡ slice_index_or items i default
read-more [] n i default = get_or-replicate_all n i default (nat_lt i n) refl
read-more (x ∷ items) n zero default = refl
read-more (x ∷ items) n (suc i) default = read-more items n i default

-- ---- cells at places

-- one cell is changed, seen at a granule's own address and at another
cells_in-set_cases : (granules : ℕ) (places : GranulePlaces) (items : List spec.Cell)
    (item : spec.Cell) (address place other : ℕ) (granule same : Bool)
    → IsTrue (is_granule granules address) → place_in places (address / 4096) ≡ Some place → place < length items
    → is_granule granules other ≡ granule → (other == address) ≡ same
    → cells_in granules (place_in places) (slice_set items place item) other
    ≡ (if same then item else cells_in granules (place_in places) items other)
cells_in-set_cases granules places items item address place other true true first at within second same =
    let equal : other ≡ address = eqb-true other address same in
    let here : place_in places (other / 4096) ≡ Some place = ap (λ a. place_in places (a / 4096)) equal ∙ at in
    rw (second, here) (get_or-set_same items place item spec.Undelegated within)
cells_in-set_cases granules places items item address place other true false first at within second apart =
    rw second (by (place_in places (other / 4096)) refl)
  where
    elsewhere : (o : ℕ) → place_in places (other / 4096) ≡ Some o → o ≢ place
    elsewhere o is same =
        both_ways (eq-eqb other address (number-apart granules other address second first
        (place-apart places (other / 4096) (address / 4096) place (is ∙ ap Some same) at))) apart

    by : (o : Option ℕ) → place_in places (other / 4096) ≡ o → placed_at (slice_set items place item) o ≡ placed_at items o
    by None is = refl
    by (Some o) is = get_or-set_other items place o item spec.Undelegated (elsewhere o is)
cells_in-set_cases granules places items item address place other false true first at within second same =
    both_ways (rw (← eqb-true other address same) at first) second
cells_in-set_cases granules places items item address place other false false first at within second apart = rw second refl

pub cells_in-set : (granules : ℕ) (places : GranulePlaces) (items : List spec.Cell) (item : spec.Cell) (address place : ℕ)
    → IsTrue (is_granule granules address) → place_in places (address / 4096) ≡ Some place → place < length items
    → cells_in granules (place_in places) (slice_set items place item) ≡ put (cells_in granules (place_in places) items) address item
cells_in-set granules places items item address place granule at within = λ i other.
    cells_in-set_cases granules places items item address place other (is_granule granules other) (other == address) granule at within refl refl i

-- what is at a granule's place is what is kept of it
pub cell-read : (granules : ℕ) (places : GranulePlaces) (items : List spec.Cell) (address place : ℕ)
    → IsTrue (is_granule granules address) → place_in places (address / 4096) ≡ Some place
    → slice_index_or items place spec.Undelegated ≡ cells_in granules (place_in places) items address
cell-read granules places items address place granule at = rw (granule, at) refl

-- a granule's cell is changed in its place
pub cells_in-changed : (granules : ℕ) (places : GranulePlaces) (old new : HeldCells) (address place : ℕ) (change : spec.Cell → spec.Cell)
    → IsTrue (is_granule granules address) → place_in places (address / 4096) ≡ Some place
    → place < length old.items → new ≡ changed_in old place change
    → cells_in granules (place_in places) new.items ≡ changed_at (cells_in granules (place_in places) old.items) address change
cells_in-changed granules places old new address place change granule at within is =
    ap (λ (held : HeldCells). cells_in granules (place_in places) held.items) is
    ∙ cells_in-set granules places old.items (change (cell_at old place)) address place granule at within
    ∙ ap (λ (cell : spec.Cell). put (cells_in granules (place_in places) old.items) address (change cell))
    (cell-read granules places old.items address place granule at)

-- a granule without a place is the host's, and so is what is no granule
pub cells_in-none : (granules : ℕ) (place : ℕ → Option ℕ) (items : List spec.Cell) (address : ℕ) → place (address / 4096) ≡ None
    → cells_in granules place items address ≡ spec.Undelegated
cells_in-none granules place items address none = by (is_granule granules address)
  where
    by : (b : Bool) → (if b then placed_at items (place (address / 4096)) else spec.Undelegated) ≡ spec.Undelegated
    by true = rw none refl
    by false = refl

pub cells_in-between : (granules : ℕ) (place : ℕ → Option ℕ) (items : List spec.Cell) (address : ℕ) → (address % 4096 ≡ 0 → ⊥)
    → cells_in granules place items address ≡ spec.Undelegated
unfolding is_granule
cells_in-between granules place items address between = by (address % 4096 == 0) refl
  where
    by : (b : Bool) → (address % 4096 == 0) ≡ b
        → (if b && nat_lt address (granules * 4096) then placed_at items (place (address / 4096)) else spec.Undelegated) ≡ spec.Undelegated
    by true even = absurd (between (eqb-true (address % 4096) 0 even))
    by false odd = refl

-- a new block of the host's changes nothing
pub cells_in-further : (granules n : ℕ) (old new : GranulePlaces) (items : List spec.Cell) → IsFurther old new → count_in old ≡ length items
    → cells_in granules (place_in new) (items ++ replicate n spec.Undelegated) ≡ cells_in granules (place_in old) items
cells_in-further granules n old new items further count = λ i address. by address (is_granule granules address) i
  where
    more : (o : Option ℕ) → placed_at (items ++ replicate n spec.Undelegated) o ≡ placed_at items o
    more None = refl
    more (Some o) = read-more items n o spec.Undelegated

    fresh : (k : ℕ) (o : Option ℕ) → place_in old k ≡ None → place_in new k ≡ o → placed_at items o ≡ spec.Undelegated
    fresh k None unplaced is = refl
    fresh k (Some o) unplaced is = elim (further.fresh k o is) [
      | inl placed ↦ absurd (none-some o (sym unplaced ∙ placed))
      | inr behind ↦ get_or_past items o spec.Undelegated (omega (arith, behind, count))
    ]

    same : (k : ℕ) (o : Option ℕ) → place_in old k ≡ o → placed_at items (place_in new k) ≡ placed_at items o
    same k None is = fresh k (place_in new k) is refl
    same k (Some o) is = ap (placed_at items) (further.kept k o is)

    by : (address : ℕ) (b : Bool)
        → (if b then placed_at (items ++ replicate n spec.Undelegated) (place_in new (address / 4096)) else spec.Undelegated)
        ≡ (if b then placed_at items (place_in old (address / 4096)) else spec.Undelegated)
    by address true = (more (place_in new (address / 4096)) ∙ same (address / 4096) (place_in old (address / 4096)) refl)
    by address false = refl

-- ---- CPUs

pub places-set : (items : List CpuPlace) (cpu place : ℕ) (to : CpuPlace) → place ≡ cpu → cpu < length items
    → places_in (slice_set items place to) ≡ put (places_in items) cpu (place_of to)
places-set items cpu place to at within = rw at (λ i. λ other. by other (other == cpu) refl i)
  where
    by : (other : ℕ) (b : Bool) → (other == cpu) ≡ b
        → place_of (slice_index_or (slice_set items cpu to) other Outside) ≡ (if b then place_of to else places_in items other)
    by other true same = rw (eqb-true other cpu same) (ap place_of (get_or-set_same items cpu to Outside within))
    by other false apart = ap place_of (get_or-set_other items cpu other to Outside (eqb-false other cpu apart))
