-- Laws of names.
use Rattle.std.proofs.Common.{◌≡◌, ℕ, zero, suc, ◌*◌, ◌<◌, ◌≤◌, Bool, true, false, List, [], ◌∷◌, ◌++◌, length, Option, Some, None, refl, sym, ap, ◌∙◌, subst, arith, if◌then◌else◌}
use Rattle.std.specs.Prelude.{◌==◌, is_some, IsSome, option_map, unwrap_or, slice_get}
use Rattle.std.proofs.lemmas.Bool.{eqb-true, eqb-false, ne_eqb}
use Rattle.std.proofs.lemmas.Option.{none-some}
use Rattle.std.proofs.lemmas.List.{length_push}
use Rattle.rmm_spec.specs.declared.version.Version.TheVariants.{Large}
use Rattle.rmm_spec.specs.HistoryText.{granule_limit}
use Rattle.merging.specs.Laws.{AreApart, AreBelow}
use Rattle.merging.specs.Names.{number_in, added, names_from}
use Rattle.lemmas.proofs.Options.{some_value, none_of}

-- ---- numbers behind one more name

pub map_none : (o : Option ℕ) → option_map suc o ≡ None → o ≡ None
map_none None e = refl
map_none (Some n) e = absurd (none-some (suc n) (sym e))

map_some : (o : Option ℕ) (n : ℕ) → option_map suc o ≡ Some n → (m : ℕ) × ((o ≡ Some m) × (suc m ≡ n))
map_some None n e = absurd (none-some n e)
map_some (Some m) n e = (m, (refl, cc))

map_if : (b : Bool) (x y : Option ℕ) → option_map suc (if b then x else y) ≡ (if b then option_map suc x else option_map suc y)
map_if true x y = refl
map_if false x y = refl

push-other : (names : List ℕ) (name address other : ℕ) (u : Bool) → (name == other) ≡ u → (name == address) ≡ false
    → number_in (names ++ address ∷ []) other ≡ (if address == other then Some (length names) else number_in names other)
    → (if u then Some 0 else option_map suc (number_in (names ++ address ∷ []) other))
    ≡ (if address == other then Some (suc (length names)) else (if u then Some 0 else option_map suc (number_in names other)))
push-other names name address other true same apart later =
    ap (λ b. if b then Some (suc (length names)) else Some 0)
    (sym (ne_eqb address other (λ equal. eqb-false name address apart (eqb-true name other same ∙ sym equal))))
push-other names name address other false other_apart apart later =
    ap (option_map suc) later ∙ map_if (address == other) (Some (length names)) (number_in names other)

push-own : (names : List ℕ) (name address other : ℕ) (t : Bool) → (name == address) ≡ t
    → (if t then Some 0 else option_map suc (number_in names address)) ≡ None
    → (number_in names address ≡ None
    → number_in (names ++ address ∷ []) other ≡ (if address == other then Some (length names) else number_in names other))
    → (if name == other then Some 0 else option_map suc (number_in (names ++ address ∷ []) other))
    ≡ (if address == other then Some (suc (length names)) else (if name == other then Some 0 else option_map suc (number_in names other)))
push-own names name address other true is e later = absurd (none-some 0 (sym e))
push-own names name address other false is e later =
    push-other names name address other (name == other) refl is (later (map_none (number_in names address) e))

-- one address more leaves the others, and has the last number
pub number_in-push : (names : List ℕ) (address other : ℕ) → number_in names address ≡ None
    → number_in (names ++ address ∷ []) other ≡ (if address == other then Some (length names) else number_in names other)
number_in-push [] address other none = refl
number_in-push (name ∷ names) address other none =
    push-own names name address other (name == address) refl none (number_in-push names address other)

below-test : (names : List ℕ) (address n : ℕ) (t : Bool) → (if t then Some 0 else option_map suc (number_in names address)) ≡ Some n
    → ((m : ℕ) → number_in names address ≡ Some m → m < length names) → n < suc (length names)
below-test names address n true e later = let first : 0 ≡ n = cc in omega (arith, first)
below-test names address n false e later =
    let own = map_some (number_in names address) n e in
    omega (arith, own.1.1, later own.0 own.1.0)

pub number_in-below : (names : List ℕ) (address n : ℕ) → number_in names address ≡ Some n → n < length names
number_in-below [] address n is = absurd (none-some n is)
number_in-below (name ∷ names) address n is = below-test names address n (name == address) is (number_in-below names address)

pub small_number : (names : List ℕ) (address n : ℕ) → length names ≤ granule_limit Large → number_in names address ≡ Some n → n < granule_limit Large
small_number names address n few is = omega (arith, few, number_in-below names address n is)

apart-test : (names : List ℕ) (name address other n : ℕ) (t u : Bool) → (name == address) ≡ t → (name == other) ≡ u
    → (if t then Some 0 else option_map suc (number_in names address)) ≡ Some n
    → (if u then Some 0 else option_map suc (number_in names other)) ≡ Some n
    → ((m : ℕ) → number_in names address ≡ Some m → number_in names other ≡ Some m → address ≡ other) → address ≡ other
apart-test names name address other n true true one two d e later = sym (eqb-true name address one) ∙ eqb-true name other two
apart-test names name address other n true false one two d e later =
    let first : 0 ≡ n = cc in
    let own = map_some (number_in names other) n e in
    absurd (omega (arith, first, own.1.1))
apart-test names name address other n false true one two d e later =
    let first : 0 ≡ n = cc in
    let own = map_some (number_in names address) n d in
    absurd (omega (arith, first, own.1.1))
apart-test names name address other n false false one two d e later =
    let left = map_some (number_in names address) n d in
    let right = map_some (number_in names other) n e in
    let equal : right.0 ≡ left.0 = omega (arith, left.1.1, right.1.1) in
    later left.0 left.1.0 (right.1.0 ∙ ap Some equal)

-- two addresses with one number are one
pub number_in-apart : (names : List ℕ) (address other n : ℕ) → number_in names address ≡ Some n → number_in names other ≡ Some n → address ≡ other
number_in-apart [] address other n is same = absurd (none-some n is)
number_in-apart (name ∷ names) address other n is same =
    apart-test names name address other n (name == address) (name == other) refl refl is same (number_in-apart names address other)

-- what tells numbers, with one address more
pub numbers-push : (names : List ℕ) (address : ℕ) (old new : ℕ → Option ℕ) → ((a : ℕ) → old a ≡ number_in names a) → number_in names address ≡ None
    → ((a : ℕ) → new a ≡ (if address == a then Some (length names) else old a)) → (a : ℕ) → new a ≡ number_in (names ++ address ∷ []) a
numbers-push names address old new were none are a =
    are a ∙ ap (λ o. if address == a then Some (length names) else o) (were a) ∙ sym (number_in-push names address a none)

-- ---- names that are added

pub added-new : (names : List ℕ) (address : ℕ) → is_some (number_in names address) ≡ false → added names address ≡ names ++ address ∷ []
added-new names address new = ap (λ b. if b then names else names ++ address ∷ []) new

pub added-old : (names : List ℕ) (address : ℕ) → is_some (number_in names address) ≡ true → added names address ≡ names
added-old names address old = ap (λ b. if b then names else names ++ address ∷ []) old

IsSome-if : (b : Bool) (n : ℕ) (o : Option ℕ) → (b ≡ false → IsSome o) → IsSome (if b then Some n else o)
IsSome-if true n o some = refl
IsSome-if false n o some = some refl

-- an address that was added has a number, and so have those before it
pub IsSome-added : (names : List ℕ) (address : ℕ) → IsSome (number_in (added names address) address)
IsSome-added names address = by_test (is_some (number_in names address)) refl
  where
    by_test : (t : Bool) → is_some (number_in names address) ≡ t → IsSome (number_in (added names address) address)
    by_test true old = ap (λ ns. is_some (number_in ns address)) (added-old names address old) ∙ old
    by_test false new =
        ap (λ ns. is_some (number_in ns address)) (added-new names address new)
        ∙ ap is_some (number_in-push names address address (none_of (number_in names address) new))
        ∙ IsSome-if (address == address) (length names) (number_in names address) (λ apart. absurd (eqb-false address address apart refl))

pub IsSome-kept : (names : List ℕ) (address other : ℕ) → IsSome (number_in names other) → IsSome (number_in (added names address) other)
IsSome-kept names address other some = by_test (is_some (number_in names address)) refl
  where
    by_test : (t : Bool) → is_some (number_in names address) ≡ t → IsSome (number_in (added names address) other)
    by_test true old = ap (λ ns. is_some (number_in ns other)) (added-old names address old) ∙ some
    by_test false new =
        ap (λ ns. is_some (number_in ns other)) (added-new names address new)
        ∙ ap is_some (number_in-push names address other (none_of (number_in names address) new))
        ∙ IsSome-if (address == other) (length names) (number_in names other) (λ apart. some)

IsSome-kept_all : (names addresses : List ℕ) (other : ℕ) → IsSome (number_in names other) → IsSome (number_in (names_from names addresses) other)
IsSome-kept_all names [] other some = some
IsSome-kept_all names (address ∷ addresses) other some =
    IsSome-kept_all (added names address) addresses other (IsSome-kept names address other some)

pub IsSome-appeared : (names addresses : List ℕ) (place address : ℕ) → slice_get addresses place ≡ Some address
    → IsSome (number_in (names_from names addresses) address)
IsSome-appeared names [] place address is = absurd (none-some address is)
IsSome-appeared names (first ∷ addresses) zero address is =
    let same : first ≡ address = cc in
    IsSome-kept_all (added names first) addresses address (subst (λ a. IsSome (number_in (added names first) a)) same (IsSome-added names first))
IsSome-appeared names (first ∷ addresses) (suc place) address is = IsSome-appeared (added names first) addresses place address is

length-added : (names : List ℕ) (address : ℕ) → length names ≤ length (added names address)
length-added names address = by_test (is_some (number_in names address)) refl
  where
    by_test : (t : Bool) → is_some (number_in names address) ≡ t → length names ≤ length (added names address)
    by_test true old = omega (arith, ap length (added-old names address old))
    by_test false new = omega (arith, ap length (added-new names address new), length_push names address)

pub length-names_from : (names addresses : List ℕ) → length names ≤ length (names_from names addresses)
length-names_from names [] = omega arith
length-names_from names (address ∷ addresses) =
    omega (arith, length-added names address, length-names_from (added names address) addresses)

pub names_from-append : (names addresses more : List ℕ) → names_from names (addresses ++ more) ≡ names_from (names_from names addresses) more
names_from-append names [] more = refl
names_from-append names (address ∷ addresses) more = names_from-append (added names address) addresses more

-- ---- what is called

pub AreApart-names : (names : List ℕ) (granules : ℕ) → AreApart names granules
AreApart-names names granules address other named other_named same =
    let own = some_value (number_in names address) named in
    let its = some_value (number_in names other) other_named in
    let left : 4096 * unwrap_or (number_in names address) granules ≡ 4096 * own.0 = ap (λ o. 4096 * unwrap_or o granules) own.1 in
    let right : 4096 * unwrap_or (number_in names other) granules ≡ 4096 * its.0 = ap (λ o. 4096 * unwrap_or o granules) its.1 in
    let equal : its.0 ≡ own.0 = omega (arith, left, right, same) in
    number_in-apart names address other own.0 own.1 (its.1 ∙ ap Some equal)

pub AreBelow-names : (names : List ℕ) (granules : ℕ) → AreBelow names granules
AreBelow-names names granules address named few =
    let own = some_value (number_in names address) named in
    let is : 4096 * unwrap_or (number_in names address) granules ≡ 4096 * own.0 = ap (λ o. 4096 * unwrap_or o granules) own.1 in
    omega (arith, is, few, number_in-below names address own.0 own.1)
