-- What becomes of a count when entries change, and what a count tells.
use Rattle.std.proofs.Common.{◌≡◌, ℕ, zero, suc, ◌+◌, ◌-◌, ◌≤◌, Bool, true, false, ◌||◌, if◌then◌else◌, List, [], ◌∷◌, ◌++◌, map, take, drop, replicate, length, Some, nat_lt, slice_get, slice_set, refl, sym, ap, ◌∙◌, arith}
use Rattle.std.specs.List.{list_any, slice_range}
use Rattle.std.proofs.lemmas.Bool.{lt-ltb}
use Rattle.std.proofs.lemmas.List.{drop-drop}
use Rattle.std.proofs.lemmas.Option.{none-some, same_Some}
use Rattle.rmm_spec.specs.declared.entry.Entry.{Entry}
use Rattle.rmm_spec.specs.declared.entry.Entry.TheVariants.{Unassigned}
use Rattle.rmm_spec.specs.declared.tag.Ripas.{Ripas}
use Rattle.rmm_spec.specs.Update.{entry_with_ripas}
use Rattle.rmm_spec.specs.Walk.{is_live, is_table}
use Rattle.rmm_spec.specs.Table.{entries_with_ripas}
use Rattle.rtt_table.specs.Counts.{one_if, count_of, AreCounts}

-- ---- what a count tells

one_if-le : (b : Bool) → one_if b ≤ 1
one_if-le true = omega arith
one_if-le false = omega arith

-- no more entries are counted than there are
pub count-within : (test : Entry → Bool) (entries : List Entry) → count_of test entries ≤ length entries
unfolding count_of
count-within test [] = omega arith
count-within test (e ∷ entries) = omega (arith, one_if-le (test e), count-within test entries)

-- an entry that passes is counted
pub count-at : (test : Entry → Bool) (entries : List Entry) (i : ℕ) (e : Entry)
    → slice_get entries i ≡ Some e → one_if (test e) ≤ count_of test entries
unfolding count_of
count-at test [] i e at = absurd (none-some e at)
count-at test (x ∷ entries) zero e at =
    let same : one_if (test x) ≡ one_if (test e) = ap (λ y. one_if (test y)) (same_Some x e at) in omega (arith, same)
count-at test (x ∷ entries) (suc i) e at = omega (arith, count-at test entries i e at)

-- some entry passes where the count isn't 0
pub count-any : (test : Entry → Bool) (entries : List Entry) → nat_lt 0 (count_of test entries) ≡ list_any test entries
unfolding count_of
count-any test [] = refl
count-any test (e ∷ entries) = by (test e) (count-any test entries)
  where
    by : (b : Bool) → nat_lt 0 (count_of test entries) ≡ list_any test entries
        → nat_lt 0 (one_if b + count_of test entries) ≡ (b || list_any test entries)
    by true rest = lt-ltb 0 (1 + count_of test entries) (omega arith)
    by false rest = let same : 0 + count_of test entries ≡ count_of test entries = omega arith in ap (λ n. nat_lt 0 n) same ∙ rest

-- ---- what becomes of it

-- of copies of one entry all are counted, or none
pub count-copies : (test : Entry → Bool) (n : ℕ) (e : Entry) → count_of test (replicate n e) ≡ (if test e then n else 0)
unfolding count_of
count-copies test n e = by (test e) refl n
  where
    by : (b : Bool) → test e ≡ b → (m : ℕ) → count_of test (replicate m e) ≡ (if b then m else 0)
    by true is zero = refl
    by true is (suc m) = omega (arith, ap one_if is, by true is m)
    by false is zero = refl
    by false is (suc m) = omega (arith, ap one_if is, by false is m)

-- one entry replaced by another
pub count-set : (test : Entry → Bool) (entries : List Entry) (i : ℕ) (old new : Entry) → slice_get entries i ≡ Some old
    → count_of test (slice_set entries i new) + one_if (test old) ≡ count_of test entries + one_if (test new)
unfolding count_of
count-set test [] i old new at = absurd (none-some old at)
count-set test (x ∷ entries) zero old new at =
    let same : one_if (test x) ≡ one_if (test old) = ap (λ y. one_if (test y)) (same_Some x old at) in
    omega (arith, same)
count-set test (x ∷ entries) (suc i) old new at = omega (arith, count-set test entries i old new at)

-- two parts of a list
count-append : (test : Entry → Bool) (xs ys : List Entry) → count_of test (xs ++ ys) ≡ count_of test xs + count_of test ys
unfolding count_of
count-append test [] ys = omega arith
count-append test (x ∷ xs) ys = omega (arith, count-append test xs ys)

-- entries that each pass as before
count-map : (test : Entry → Bool) (change : Entry → Entry) → ((e : Entry) → test (change e) ≡ test e) → (xs : List Entry)
    → count_of test (map change xs) ≡ count_of test xs
unfolding count_of
count-map test change same [] = refl
count-map test change same (x ∷ xs) = omega (arith, ap one_if (same x), count-map test change same xs)

count-parts : (test : Entry → Bool) (n : ℕ) (xs : List Entry) → count_of test (take n xs) + count_of test (drop n xs) ≡ count_of test xs
unfolding count_of
count-parts test zero xs = omega arith
count-parts test (suc n) [] = refl
count-parts test (suc n) (x ∷ xs) = omega (arith, count-parts test n xs)

-- a change of a stretch's RIPAS leaves the count of what doesn't look at RIPAS
pub count-ripas : (test : Entry → Bool) (first last : ℕ) (ripas : Ripas) (xs : List Entry)
    → ((e : Entry) → test (entry_with_ripas ripas e) ≡ test e) → first ≤ last
    → count_of test (entries_with_ripas first last ripas xs) ≡ count_of test xs
unfolding entries_with_ripas
count-ripas test first last ripas xs same order =
    let reach : first + (last - first) ≡ last = omega arith in
    let ends : drop (last - first) (drop first xs) ≡ drop last xs = drop-drop (last - first) first xs ∙ ap (λ (n : ℕ). drop n xs) reach in
    let stretch : count_of test (map (entry_with_ripas ripas) (slice_range xs first last)) ≡ count_of test (take (last - first) (drop first xs)) =
    count-map test (entry_with_ripas ripas) same (slice_range xs first last) in
    let rest = count-parts test (last - first) (drop first xs) in
    let back = ap (count_of test) ends in
    let all = count-parts test first xs in
    let outer = count-append test (take first xs) (map (entry_with_ripas ripas) (slice_range xs first last) ++ drop last xs) in
    let inner = count-append test (map (entry_with_ripas ripas) (slice_range xs first last)) (drop last xs) in
    omega arith

-- whether an entry is live, or a link, isn't told by its RIPAS
pub live-ripas : (ripas : Ripas) (e : Entry) → is_live (entry_with_ripas ripas e) ≡ is_live e
live-ripas ripas (Unassigned old) = refl
live-ripas ripas _ = refl

pub link-ripas : (ripas : Ripas) (e : Entry) → is_table (entry_with_ripas ripas e) ≡ is_table e
link-ripas ripas (Unassigned old) = refl
link-ripas ripas _ = refl

-- ---- both counts

-- those of copies of one entry and copies of another
pub counts-halves : (n m : ℕ) (lower upper : Entry) (live links : ℕ)
    → live ≡ (if is_live lower then n else 0) + (if is_live upper then m else 0)
    → links ≡ (if is_table lower then n else 0) + (if is_table upper then m else 0)
    → AreCounts (replicate n lower ++ replicate m upper) live links
counts-halves n m lower upper live links first second = record {
  of_live = first ∙ both is_live;
  of_links = second ∙ both is_table;
}
  where
    both : (test : Entry → Bool)
        → (if test lower then n else 0) + (if test upper then m else 0) ≡ count_of test (replicate n lower ++ replicate m upper)
    both test = omega (arith, count-append test (replicate n lower) (replicate m upper), count-copies test n lower, count-copies test m upper)

-- those of entries of which one is replaced
pub counts-set : (entries : List Entry) (live links live' links' at : ℕ) (old new : Entry)
    → AreCounts entries live links → slice_get entries at ≡ Some old
    → live' + one_if (is_live old) ≡ live + one_if (is_live new) → links' + one_if (is_table old) ≡ links + one_if (is_table new)
    → AreCounts (slice_set entries at new) live' links'
counts-set entries live links live' links' at old new counts there first second = record {
  of_live = omega (arith, counts.of_live, first, count-set is_live entries at old new there);
  of_links = omega (arith, counts.of_links, second, count-set is_table entries at old new there);
}

-- those of entries of which a stretch has another RIPAS
pub counts-ripas : (entries : List Entry) (live links first last : ℕ) (ripas : Ripas) → AreCounts entries live links → first ≤ last
    → AreCounts (entries_with_ripas first last ripas entries) live links
counts-ripas entries live links first last ripas counts order = record {
  of_live = counts.of_live ∙ sym (count-ripas is_live first last ripas entries (live-ripas ripas) order);
  of_links = counts.of_links ∙ sym (count-ripas is_table first last ripas entries (link-ripas ripas) order);
}
