-- A list with an item for each granule, or for each CPU, is a map, and a write to it is a put.
use Rattle.world.proofs.Common.{◌<◌, ◌==◌, ◌∙◌, ◌≡◌, Bool, Cpu, IsTrue, List, Some, ap, arith, eqb-true, false, if◌then◌else◌, length, put, refl, slice_get, true, ℕ}
use Rattle.std.proofs.Common.{◌*◌, ◌/◌, ◌%◌, nat_lt, ◌≢◌, slice_index_or, slice_set}
use Rattle.std.proofs.lemmas.Bool.{and_parts}
use Rattle.std.proofs.lemmas.List.{get_or_default, get_or-set_same, get_or-set_other}
use Rattle.rmm_spec.specs.Lookup.{is_granule}
use Rattle.lemmas.proofs.Tests.{both_ways, keys_apart}
use Rattle.rmm_laws.proofs.Slices.{slice_get-set_same, slice_get-set_other}
use Rattle.world.specs.Granules.{item_at}
use Rattle.world.specs.Cpus.{told, of_each}
use Rattle.spec_lemmas.proofs.Lookups.{granule-within}

-- ---- granules

pub granule-multiple : (granules address : ℕ) → IsTrue (is_granule granules address) → (address % 4096 == 0) ≡ true
unfolding is_granule
granule-multiple granules address granule = (and_parts (address % 4096 == 0) (nat_lt address (granules * 4096)) granule).0

-- one item is changed, and what it tells is seen at the granule's own address and at another
item_at-set_cases : {A B : Type 0} → (f : A → B) (items : List A) (default item : A) (address other : ℕ) (multiple same : Bool)
    → address / 4096 < length items → (address % 4096 == 0) ≡ true → (other % 4096 == 0) ≡ multiple → (other == address) ≡ same
    → f (item_at (slice_set items (address / 4096) item) default other) ≡ (if same then f item else f (item_at items default other))
item_at-set_cases f items default item address other true true within first second same =
    rw (second, eqb-true other address same) (ap f (get_or-set_same items (address / 4096) item default within))
item_at-set_cases f items default item address other true false within first second apart =
    let elsewhere : other / 4096 ≢ address / 4096 =
    λ place. keys_apart other address apart (omega (arith, place, eqb-true (other % 4096) 0 second, eqb-true (address % 4096) 0 first)) in
    rw second (ap f (get_or-set_other items (address / 4096) (other / 4096) item default elsewhere))
item_at-set_cases f items default item address other false true within first second same =
    both_ways (rw (← eqb-true other address same) at first) second
item_at-set_cases f items default item address other false false within first second apart = rw second refl

pub item_at-set : {A B : Type 0} → (f : A → B) (items : List A) (default item : A) (granules address place : ℕ) → granules ≡ length items
    → IsTrue (is_granule granules address) → place ≡ address / 4096
    → (λ other. f (item_at (slice_set items place item) default other)) ≡ put (λ other. f (item_at items default other)) address (f item)
item_at-set f items default item granules address place size granule at =
    let within : address / 4096 < length items = omega (arith, size, granule-within granules address granule) in
    rw at (λ i other. item_at-set_cases f items default item address other (other % 4096 == 0) (other == address) within
    (granule-multiple granules address granule) refl refl i)

-- what is read at a granule's place is what is kept for it
pub item_at-granule : {A : Type 0} → (items : List A) (default read : A) (granules address place : ℕ) → granules ≡ length items
    → IsTrue (is_granule granules address) → place ≡ address / 4096 → read ≡ slice_index_or items place read → read ≡ item_at items default address
item_at-granule items default read granules address place size granule at is_read =
    let within : place < length items = omega (arith, size, at, granule-within granules address granule) in
    rw (granule-multiple granules address granule, ← at) (is_read ∙ get_or_default items place read default within)

-- ---- CPUs

-- one CPU changes, seen at its own number and at another
of_each-set_cases : {A : Type 0} → (tells : Cpu → A) (none : A) (list : List Cpu) (key : ℕ) (cpu : Cpu) (other : ℕ) (same : Bool) → key < length list
    → (other == key) ≡ same → told tells none (slice_get (slice_set list key cpu) other)
    ≡ (if same then tells cpu else told tells none (slice_get list other))
of_each-set_cases tells none list key cpu other true within same =
    ap (told tells none) (ap (slice_get (slice_set list key cpu)) (eqb-true other key same) ∙ slice_get-set_same list key cpu within)
of_each-set_cases tells none list key cpu other false within apart =
    ap (told tells none) (slice_get-set_other list key other cpu (keys_apart other key apart))

pub of_each-set : {A : Type 0} → (tells : Cpu → A) (none : A) (list : List Cpu) (key : ℕ) (cpu : Cpu) → key < length list
    → of_each tells none (slice_set list key cpu) ≡ put (of_each tells none list) key (tells cpu)
of_each-set tells none list key cpu within = λ i other. of_each-set_cases tells none list key cpu other (other == key) within refl i

pub of_each-read : {A : Type 0} → (tells : Cpu → A) (none : A) (list : List Cpu) (key : ℕ) (cpu : Cpu) → slice_get list key ≡ Some cpu
    → of_each tells none list key ≡ tells cpu
of_each-read tells none list key cpu is = ap (told tells none) is
