-- Lists of entries: one replaced, a stretch changed, and copies of one.
use Rattle.rmm_laws.proofs.ShapeCommon.{◌+◌, ◌-◌, ◌<◌, ◌∙◌, ◌≡◌, ◌≤◌, Bool, Entry, List, None, Option, Some, Table, ap, arith, false, if◌then◌else◌, is_table, length, none-some, option_and_then, refl, same_Some, slice_get, subst, suc, sym, true, zero, ℕ}
use Rattle.std.proofs.Common.{[], ◌∷◌, ◌++◌, map, take, drop, replicate, option_map, slice_set, slice_range, nat_lt}
use Rattle.std.proofs.lemmas.Bool.{ltb-true, ltb-false}
use Rattle.std.proofs.lemmas.List.{drop-drop}
use Rattle.rmm_spec.specs.declared.entry.Entry.TheVariants.{Unassigned, Assigned}
use Rattle.rmm_spec.specs.declared.tag.Ripas.{Ripas}
use Rattle.rmm_spec.specs.Update.{entry_with_ripas}
use Rattle.rmm_spec.specs.Table.{entries_with_ripas}
use Rattle.rmm_laws.proofs.ShapeTies.{entry_leaf}

-- ---- one entry replaced

pub slice_get-set_same : {A : Type 0} (xs : List A) (i : ℕ) (x : A) → i < length xs → slice_get (slice_set xs i x) i ≡ Some x
slice_get-set_same [] i x below = absurd (omega arith)
slice_get-set_same (first ∷ xs) zero x below = refl
slice_get-set_same (first ∷ xs) (suc i) x below = slice_get-set_same xs i x (omega arith)

pub slice_get-set_other : {A : Type 0} (xs : List A) (i j : ℕ) (x : A) → (j ≡ i → ⊥) → slice_get (slice_set xs i x) j ≡ slice_get xs j
slice_get-set_other [] i j x apart = refl
slice_get-set_other (first ∷ xs) zero zero x apart = absurd (apart refl)
slice_get-set_other (first ∷ xs) zero (suc j) x apart = refl
slice_get-set_other (first ∷ xs) (suc i) zero x apart = refl
slice_get-set_other (first ∷ xs) (suc i) (suc j) x apart = slice_get-set_other xs i j x (λ same. apart (ap suc same))

-- ---- copies

pub slice_get-copies : {A : Type 0} (n : ℕ) (x : A) (i : ℕ) → i < n → slice_get (replicate n x) i ≡ Some x
slice_get-copies zero x i below = absurd (omega arith)
slice_get-copies (suc n) x zero below = refl
slice_get-copies (suc n) x (suc i) below = slice_get-copies n x i (omega arith)

pub copies-all : {A : Type 0} (n : ℕ) (x : A) (i : ℕ) (y : A) → slice_get (replicate n x) i ≡ Some y → x ≡ y
copies-all zero x i y is = absurd (none-some y is)
copies-all (suc n) x zero y is = same_Some x y is
copies-all (suc n) x (suc i) y is = copies-all n x i y is

slice_get-copies_first : {A : Type 0} (n : ℕ) (x : A) (ys : List A) (i : ℕ) → i < n → slice_get (replicate n x ++ ys) i ≡ Some x
slice_get-copies_first zero x ys i below = absurd (omega arith)
slice_get-copies_first (suc n) x ys zero below = refl
slice_get-copies_first (suc n) x ys (suc i) below = slice_get-copies_first n x ys i (omega arith)

slice_get-after_copies : {A : Type 0} (n : ℕ) (x : A) (ys : List A) (i j : ℕ) → i ≡ n + j → slice_get (replicate n x ++ ys) i ≡ slice_get ys j
slice_get-after_copies zero x ys i j at = ap (slice_get ys) (let same : i ≡ j = omega arith in same)
slice_get-after_copies (suc n) x ys zero j at = absurd (omega arith)
slice_get-after_copies (suc n) x ys (suc i) j at = slice_get-after_copies n x ys i j (omega arith)

-- the two halves of copies, by the place
pub halves : {A : Type 0} (n : ℕ) (x y : A) (i : ℕ) → i < n + n → slice_get (replicate n x ++ replicate n y) i ≡ Some (if nat_lt i n then x else y)
halves {A} n x y i below = by (nat_lt i n) refl
  where
    by : (b : Bool) → nat_lt i n ≡ b → slice_get (replicate n x ++ replicate n y) i ≡ Some (if b then x else y)
    by true less = slice_get-copies_first n x (replicate n y) i (ltb-true i n less)
    by false more =
        let past : n ≤ i = ltb-false i n more in
        slice_get-after_copies n x (replicate n y) i (i - n) (omega arith) ∙ slice_get-copies n y (i - n) (omega arith)

pub halves-all : {A : Type 0} (n : ℕ) (x y : A) (i : ℕ) (z : A) (P : A → Type 0)
    → P x → P y → slice_get (replicate n x ++ replicate n y) i ≡ Some z → P z
halves-all {A} n x y i z P px py is = by (nat_lt i n) refl
  where
    by : (b : Bool) → nat_lt i n ≡ b → P z
    by true less = subst P (same_Some x z (sym (slice_get-copies_first n x (replicate n y) i (ltb-true i n less)) ∙ is)) px
    by false more =
        let past : n ≤ i = ltb-false i n more in
        subst P (copies-all n y (i - n) z (sym (slice_get-after_copies n x (replicate n y) i (i - n) (omega arith)) ∙ is)) py

-- ---- a stretch changed

-- what a list is at a place after those from first on, as many as count, were changed
pub record IsStretch (f : Entry → Entry) (first count : ℕ) (xs ys : List Entry) (j : ℕ) : Type 0 where
  pub before : j < first → slice_get ys j ≡ slice_get xs j
  pub within : first ≤ j → j < first + count → slice_get ys j ≡ option_map f (slice_get xs j)
  pub after : first + count ≤ j → slice_get ys j ≡ slice_get xs j

abbrev stretch : (Entry → Entry) → ℕ → ℕ → List Entry → List Entry
stretch f first count xs = take first xs ++ (map f (take count (drop first xs)) ++ drop count (drop first xs))

stretch-get : (f : Entry → Entry) (first count : ℕ) (xs : List Entry) (j : ℕ) → IsStretch f first count xs (stretch f first count xs) j
stretch-get f zero zero xs j = record { before = λ _. refl; within = λ a b. absurd (omega (arith, a, b)); after = λ _. refl }
stretch-get f zero (suc c) [] j = record { before = λ _. refl; within = λ _ _. refl; after = λ _. refl }
stretch-get f zero (suc c) (x ∷ xs) zero =
    record { before = λ a. absurd (omega (arith, a)); within = λ _ _. refl; after = λ a. absurd (omega (arith, a)) }
stretch-get f zero (suc c) (x ∷ xs) (suc j) =
    let rest = stretch-get f zero c xs j in record {
      before = λ a. absurd (omega (arith, a));
      within = λ a b. rest.within (omega arith) (omega (arith, b));
      after = λ a. rest.after (omega (arith, a));
    }
stretch-get f (suc n) zero [] j = record { before = λ _. refl; within = λ _ _. refl; after = λ _. refl }
stretch-get f (suc n) (suc c) [] j = record { before = λ _. refl; within = λ _ _. refl; after = λ _. refl }
stretch-get f (suc n) c (x ∷ xs) zero =
    record { before = λ _. refl; within = λ a b. absurd (omega (arith, a)); after = λ a. absurd (omega (arith, a)) }
stretch-get f (suc n) c (x ∷ xs) (suc j) =
    let rest = stretch-get f n c xs j in record {
      before = λ a. rest.before (omega (arith, a));
      within = λ a b. rest.within (omega (arith, a)) (omega (arith, b));
      after = λ a. rest.after (omega (arith, a));
    }

pub ripas-get : (first last : ℕ) (ripas : Ripas) (xs : List Entry) (j : ℕ) → first ≤ last
    → IsStretch (entry_with_ripas ripas) first (last - first) xs (entries_with_ripas first last ripas xs) j
unfolding entries_with_ripas
ripas-get first last ripas xs j order =
    let reach : first + (last - first) ≡ last = omega arith in
    let ends : drop (last - first) (drop first xs) ≡ drop last xs = drop-drop (last - first) first xs ∙ ap (λ (n : ℕ). drop n xs) reach in
    subst (λ rest. IsStretch (entry_with_ripas ripas) first (last - first) xs
    (take first xs ++ (map (entry_with_ripas ripas) (slice_range xs first last) ++ rest)) j)
    ends (stretch-get (entry_with_ripas ripas) first (last - first) xs j)

-- an entry with another RIPAS is a link only where it was that link
pub ripas-is_link : (ripas : Ripas) (e : Entry) (child : ℕ) → entry_with_ripas ripas e ≡ Table child → e ≡ Table child
ripas-is_link ripas (Unassigned old) child same = absurd (let bad : Unassigned ripas ≡ Table child = same in cc)
ripas-is_link ripas (Assigned old granule) child same = absurd (let bad : Assigned ripas granule ≡ Table child = same in cc)
ripas-is_link ripas _ child same = same

-- ---- as leaves

pub entry_leaf-link : (entries : List Entry) (i : ℕ) (child : ℕ) → slice_get entries i ≡ Some (Table child) → entry_leaf entries i ≡ None
entry_leaf-link entries i child at = rw at refl

leaf-ripas : (ripas : Ripas) (found : Option Entry)
    → option_and_then (λ e. if is_table e then None else Some e) (option_map (entry_with_ripas ripas) found)
    ≡ option_map (entry_with_ripas ripas) (option_and_then (λ e. if is_table e then None else Some e) found)
leaf-ripas ripas None = refl
leaf-ripas ripas (Some (Unassigned old)) = refl
leaf-ripas ripas _ = refl

pub entry_leaf-ripas : (ripas : Ripas) (xs ys : List Entry) (i : ℕ) → slice_get ys i ≡ option_map (entry_with_ripas ripas) (slice_get xs i)
    → entry_leaf ys i ≡ option_map (entry_with_ripas ripas) (entry_leaf xs i)
entry_leaf-ripas ripas xs ys i at = ap (option_and_then (λ e. if is_table e then None else Some e)) at ∙ leaf-ripas ripas (slice_get xs i)
