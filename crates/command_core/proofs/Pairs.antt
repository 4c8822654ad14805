-- Granules with their cells: where one is found, and what they are with one more, with one replaced, and with one taken out.
use Rattle.std.proofs.Common.{◌≡◌, ℕ, zero, suc, ◌+◌, ◌<◌, Bool, true, false, not, ◌||◌, ◌==◌, cond, if◌then◌else◌, List, [], ◌∷◌, ◌++◌, length, get_or, position, Option, Some, None, refl, sym, ap, ◌∙◌, subst, arith}
use Rattle.std.specs.Prelude.{IsTrue, is_some, slice_set, remove}
use Rattle.std.specs.List.{list_any, position_from}
use Rattle.std.proofs.lemmas.Bool.{and_parts, and_from, eqb-true, false≢true, not-true, or_parts, or_from}
use Rattle.std.proofs.lemmas.List.Quantifiers.{position-Some}
use Rattle.std.proofs.lemmas.Iterator.Adapters.{position_from-zero}
use Rattle.rmm_spec.specs.Cell as whole
use Rattle.world_laws.specs.Replaced.{held_at, replaced_cells}
use Rattle.command_core.specs.Seen.{cell_of, cell_in, is_held, are_distinct}
use Rattle.granule_cells.specs.declared.cell.Cell.{Cell}
use Rattle.command_core.specs.Pairs.{paired, without_cell}

-- ---- finding

-- the granule stands at that place, and at none before it
abbrev pub IsFirst : List ℕ → ℕ → ℕ → Type 0
IsFirst gs g i = (i < length gs) × ((get_or gs i 0 == g) ≡ true) × ((k : ℕ) → k < i → (get_or gs k 0 == g) ≡ false)

pub position-first : (gs : List ℕ) (g i : ℕ) → position (λ x. x == g) gs ≡ Some i → IsFirst gs g i
position-first gs g i is = position-Some (λ x. x == g) gs i 0 is

behind : (x : ℕ) (gs : List ℕ) (g i : ℕ) → IsFirst (x ∷ gs) g (suc i) → ((x == g) ≡ false) × IsFirst gs g i
behind x gs g i first = (first.2 0 (omega arith), (omega (arith, first.0), first.1, λ k less. first.2 (suc k) (omega (arith, less))))

-- whether a place was found is whether the test passes somewhere
is_some-position_from : (p : ℕ → Bool) (n : ℕ) (xs : List ℕ) → is_some (position_from p n xs) ≡ list_any p xs
is_some-position_from p n [] = refl
is_some-position_from p n (x ∷ xs) = step (p x) ∙ ap (λ rest. p x || rest) (is_some-position_from p (n + 1) xs)
  where
    step : (b : Bool) → is_some (cond b (Some n) (position_from p (n + 1) xs)) ≡ (b || is_some (position_from p (n + 1) xs))
    step true = refl
    step false = refl

-- a granule is held where it stands among the granules
pub is_held-paired : (gs : List ℕ) (cs : List Cell) (g : ℕ) → length cs ≡ length gs → is_held g (paired gs cs) ≡ list_any (λ x. x == g) gs
is_held-paired [] cs g same = refl
is_held-paired (x ∷ gs) [] g same = absurd (omega (arith, same))
is_held-paired (x ∷ gs) (c ∷ cs) g same = step (x == g) ∙ ap (λ rest. (x == g) || rest) (is_held-paired gs cs g (omega (arith, same)))
  where
    step : (b : Bool) → is_some (if b then Some (cell_of c) else cell_in g (paired gs cs)) ≡ (b || is_held g (paired gs cs))
    step true = refl
    step false = refl

pub is_held-no_place : (gs : List ℕ) (cs : List Cell) (g : ℕ)
    → length cs ≡ length gs → position (λ x. x == g) gs ≡ None → is_held g (paired gs cs) ≡ false
is_held-no_place gs cs g same none =
    let from : position_from (λ x. x == g) 0 gs ≡ None = sym (position_from-zero (λ x. x == g) gs) ∙ none in
    is_held-paired gs cs g same ∙ (sym (is_some-position_from (λ x. x == g) 0 gs) ∙ ap (λ (o : Option ℕ). is_some o) from)

no_cell : (o : Option whole.Cell) → is_some o ≡ false → o ≡ None
no_cell None is = refl
no_cell (Some c) is = absurd (false≢true (sym is))

pub cell_in-no_place : (gs : List ℕ) (cs : List Cell) (g : ℕ)
    → length cs ≡ length gs → position (λ x. x == g) gs ≡ None → cell_in g (paired gs cs) ≡ None
cell_in-no_place gs cs g same none = no_cell (cell_in g (paired gs cs)) (is_held-no_place gs cs g same none)

pub cell_in-place : (gs : List ℕ) (cs : List Cell) (g i : ℕ) (c : Cell) → length cs ≡ length gs → IsFirst gs g i → c ≡ get_or cs i c
    → cell_in g (paired gs cs) ≡ Some (cell_of c)
cell_in-place [] cs g i c same first at = absurd (omega (arith, first.0))
cell_in-place (x ∷ gs) [] g i c same first at = absurd (omega (arith, same))
cell_in-place (x ∷ gs) (y ∷ cs) g zero c same first at = rw first.1 (ap (λ (z : Cell). Some (cell_of z)) (sym at))
cell_in-place (x ∷ gs) (y ∷ cs) g (suc i) c same first at =
    let rest = behind x gs g i first in
    rw rest.0 (cell_in-place gs cs g i c (omega (arith, same)) rest.1 at)

-- ---- one more

pub paired-push : (gs : List ℕ) (cs : List Cell) (g : ℕ) (c : Cell)
    → length cs ≡ length gs → paired (gs ++ g ∷ []) (cs ++ c ∷ []) ≡ paired gs cs ++ held_at g (cell_of c) ∷ []
paired-push [] [] g c same = refl
paired-push [] (y ∷ cs) g c same = absurd (omega (arith, same))
paired-push (x ∷ gs) [] g c same = absurd (omega (arith, same))
paired-push (x ∷ gs) (y ∷ cs) g c same = ap (λ rest. held_at x (cell_of y) ∷ rest) (paired-push gs cs g c (omega (arith, same)))

-- ---- another in its place

none_replaced : (gs : List ℕ) (cs : List Cell) (g : ℕ) (c : whole.Cell)
    → list_any (λ x. x == g) gs ≡ false → replaced_cells (paired gs cs) g c ≡ paired gs cs
none_replaced [] cs g c none = refl
none_replaced (x ∷ gs) [] g c none = refl
none_replaced (x ∷ gs) (y ∷ cs) g c none =
    let parts = or_parts (x == g) (list_any (λ z. z == g) gs) none in
    let first : (x == g) ≡ false = parts.0 in
    rw first (ap (λ rest. held_at x (cell_of y) ∷ rest) (none_replaced gs cs g c parts.1))

-- the granule at the first place stands at no later one
none_behind : (x : ℕ) (gs : List ℕ) (g : ℕ) → IsTrue (are_distinct (x ∷ gs)) → (x == g) ≡ true → list_any (λ z. z == g) gs ≡ false
none_behind x gs g distinct is =
    let parts = and_parts (not (list_any (λ z. z == x) gs)) (are_distinct gs) distinct in
    let same : x ≡ g = eqb-true x g is in
    subst (λ y. list_any (λ z. z == y) gs ≡ false) same (not-true (list_any (λ z. z == x) gs) parts.0)

distinct_behind : (x : ℕ) (gs : List ℕ) → IsTrue (are_distinct (x ∷ gs)) → IsTrue (are_distinct gs)
distinct_behind x gs distinct = (and_parts (not (list_any (λ z. z == x) gs)) (are_distinct gs) distinct).1

pub paired-slice_set : (gs : List ℕ) (cs : List Cell) (g i : ℕ) (c : Cell) → length cs ≡ length gs → IsFirst gs g i → IsTrue (are_distinct gs)
    → paired gs (slice_set cs i c) ≡ replaced_cells (paired gs cs) g (cell_of c)
paired-slice_set [] cs g i c same first distinct = absurd (omega (arith, first.0))
paired-slice_set (x ∷ gs) [] g i c same first distinct = absurd (omega (arith, same))
paired-slice_set (x ∷ gs) (y ∷ cs) g zero c same first distinct =
    rw first.1 (ap (λ rest. held_at x (cell_of c) ∷ rest) (sym (none_replaced gs cs g (cell_of c) (none_behind x gs g distinct first.1))))
paired-slice_set (x ∷ gs) (y ∷ cs) g (suc i) c same first distinct =
    let rest = behind x gs g i first in
    rw rest.0 (ap (λ others. held_at x (cell_of y) ∷ others)
    (paired-slice_set gs cs g i c (omega (arith, same)) rest.1 (distinct_behind x gs distinct)))

-- ---- one taken out

none_removed : (gs : List ℕ) (cs : List Cell) (g : ℕ) → list_any (λ x. x == g) gs ≡ false → without_cell g (paired gs cs) ≡ paired gs cs
none_removed [] cs g none = refl
none_removed (x ∷ gs) [] g none = refl
none_removed (x ∷ gs) (y ∷ cs) g none =
    let parts = or_parts (x == g) (list_any (λ z. z == g) gs) none in
    let first : (x == g) ≡ false = parts.0 in
    rw first (ap (λ rest. held_at x (cell_of y) ∷ rest) (none_removed gs cs g parts.1))

pub paired-remove : (gs : List ℕ) (cs : List Cell) (g i : ℕ) → length cs ≡ length gs → IsFirst gs g i → IsTrue (are_distinct gs)
    → paired (remove gs i) (remove cs i) ≡ without_cell g (paired gs cs)
paired-remove [] cs g i same first distinct = absurd (omega (arith, first.0))
paired-remove (x ∷ gs) [] g i same first distinct = absurd (omega (arith, same))
paired-remove (x ∷ gs) (y ∷ cs) g zero same first distinct = rw first.1 (sym (none_removed gs cs g (none_behind x gs g distinct first.1)))
paired-remove (x ∷ gs) (y ∷ cs) g (suc i) same first distinct =
    let rest = behind x gs g i first in
    rw rest.0 (ap (λ others. held_at x (cell_of y) ∷ others) (paired-remove gs cs g i (omega (arith, same)) rest.1 (distinct_behind x gs distinct)))

any-remove : (p : ℕ → Bool) (gs : List ℕ) (i : ℕ) → i < length gs → list_any p gs ≡ false → list_any p (remove gs i) ≡ false
any-remove p [] i less none = absurd (omega (arith, less))
any-remove p (x ∷ gs) zero less none = (or_parts (p x) (list_any p gs) none).1
any-remove p (x ∷ gs) (suc i) less none =
    let parts = or_parts (p x) (list_any p gs) none in
    or_from (p x) (list_any p (remove gs i)) parts.0 (any-remove p gs i (omega (arith, less)) parts.1)

pub distinct-remove : (gs : List ℕ) (i : ℕ) → i < length gs → IsTrue (are_distinct gs) → IsTrue (are_distinct (remove gs i))
distinct-remove [] i less distinct = absurd (omega (arith, less))
distinct-remove (x ∷ gs) zero less distinct = distinct_behind x gs distinct
distinct-remove (x ∷ gs) (suc i) less distinct =
    let parts = and_parts (not (list_any (λ z. z == x) gs)) (are_distinct gs) distinct in
    let others = any-remove (λ z. z == x) gs i (omega (arith, less)) (not-true (list_any (λ z. z == x) gs) parts.0) in
    and_from (not (list_any (λ z. z == x) (remove gs i))) (are_distinct (remove gs i))
    (ap not others) (distinct-remove gs i (omega (arith, less)) parts.1)
