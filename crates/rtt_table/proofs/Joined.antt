-- Columns of entries, and the entries that they stand for.
use Rattle.std.proofs.Common.{◌≡◌, ℕ, zero, suc, ◌+◌, ◌-◌, ◌<◌, ◌≤◌, List, [], ◌∷◌, ◌++◌, map, take, drop, replicate, length, get_or, set, Some, refl, sym, ap, ◌∙◌, subst, arith}
use Rattle.std.specs.List.{slice_range, slice_get}
use Rattle.std.proofs.lemmas.List.{append-nil, map-append, map-set, drop-drop, drop_all, drop_at, length-map, length-replicate, get_or-map, replicate-append-replicate, take_all, take_at}
use Rattle.std.proofs.lemmas.Option.{slice_get-get_or}
use borrow.Rule.Slice.PartMut.{put_mid}
use Rattle.rmm_spec.specs.declared.entry.Entry.{Entry}
use Rattle.rmm_spec.specs.declared.entry.Entry.TheVariants.{Unassigned, Assigned, UnassignedNs}
use Rattle.rmm_spec.specs.declared.tag.Ripas.{Ripas}
use Rattle.rmm_spec.specs.declared.tag.Ripas.TheVariants.{Empty}
use Rattle.rmm_spec.specs.Update.{entry_with_ripas}
use Rattle.rmm_spec.specs.Walk.{entry_address}
use Rattle.rmm_spec.specs.Table.{entries_with_ripas}
use Rattle.rtt_table.specs.declared.kind.Kind.{Kind}
use Rattle.rtt_table.specs.Columns.{kind_of, entry_from, kind_with_ripas, joined, AreColumns}
use Rattle.lemmas.proofs.Elements.{map-copies}

-- an entry is that of its kind and its address
pub entry_back : (e : Entry) → entry_from (kind_of e) (entry_address e) ≡ e
entry_back (Unassigned Empty) = refl
entry_back (Assigned Empty granule) = refl
entry_back _ = refl

-- and a list of entries that of its two columns
joined_back : (entries : List Entry) → joined (map kind_of entries) (map entry_address entries) ≡ entries
unfolding joined
joined_back [] = refl
joined_back (e ∷ entries) = λ i. entry_back e i ∷ joined_back entries i

-- the columns of entries stand for them
pub joined_is : (entries : List Entry) (kinds : List Kind) (addresses : List ℕ)
    → AreColumns entries kinds addresses → joined kinds addresses ≡ entries
joined_is entries kinds addresses columns = (λ i. joined (columns.of_kinds i) (columns.of_addresses i)) ∙ joined_back entries

-- so they are the columns of what they stand for
pub columns_held : (entries : List Entry) (kinds : List Kind) (addresses : List ℕ) → length entries ≡ 512 → AreColumns entries kinds addresses
    → (length (joined kinds addresses) ≡ 512) × AreColumns (joined kinds addresses) kinds addresses
columns_held entries kinds addresses size columns =
    subst (λ (xs : List Entry). (length xs ≡ 512) × AreColumns xs kinds addresses) (sym (joined_is entries kinds addresses columns)) (size, columns)

-- those of copies of one entry and copies of another
pub columns-halves : (n m : ℕ) (lower upper : Entry)
    → AreColumns (replicate n lower ++ replicate m upper)
    (replicate n (kind_of lower) ++ replicate m (kind_of upper)) (replicate n (entry_address lower) ++ replicate m (entry_address upper))
columns-halves n m lower upper = record { of_kinds = both kind_of; of_addresses = both entry_address }
  where
    both : {Y : Type 0} (f : Entry → Y)
        → replicate n (f lower) ++ replicate m (f upper) ≡ map f (replicate n lower ++ replicate m upper)
    both f = (λ i. sym (map-copies f n lower) i ++ sym (map-copies f m upper) i) ∙ sym (map-append f (replicate n lower) (replicate m upper))

-- so columns that were written by halves are those
pub columns-written : (lower upper : Entry) (kl ku : Kind) (al au : ℕ) (kinds : List Kind) (addresses : List ℕ)
    → kl ≡ kind_of lower → ku ≡ kind_of upper → al ≡ entry_address lower → au ≡ entry_address upper
    → kinds ≡ replicate 256 kl ++ replicate 256 ku → addresses ≡ replicate 256 al ++ replicate 256 au
    → AreColumns (replicate 256 lower ++ replicate 256 upper) kinds addresses
columns-written lower upper kl ku al au kinds addresses of_kl of_ku of_al of_au of_kinds of_addresses =
    let halves = columns-halves 256 256 lower upper in
    record {
      of_kinds = (of_kinds ∙ (λ i. replicate 256 (of_kl i) ++ replicate 256 (of_ku i))) ∙ halves.of_kinds;
      of_addresses = (of_addresses ∙ (λ i. replicate 256 (of_al i) ++ replicate 256 (of_au i))) ∙ halves.of_addresses;
    }

-- the entry at a place is that of the kind and the address there
pub columns-at : (entries : List Entry) (kinds : List Kind) (addresses : List ℕ) (i : ℕ) (kind : Kind) (address : ℕ)
    → AreColumns entries kinds addresses
    → i < length entries → kind ≡ get_or kinds i kind → address ≡ get_or addresses i address → slice_get entries i ≡ Some (entry_from kind address)
columns-at entries kinds addresses i kind address columns within is_kind is_address =
    let e = get_or entries i UnassignedNs in
    let same_kind : kind_of e ≡ kind =
    sym (get_or-map kind_of entries i UnassignedNs kind within) ∙ (ap (λ ks. get_or ks i kind) (sym columns.of_kinds) ∙ sym is_kind) in
    let same_address : entry_address e ≡ address =
    sym (get_or-map entry_address entries i UnassignedNs address within)
    ∙ (ap (λ cells. get_or cells i address) (sym columns.of_addresses) ∙ sym is_address) in
    slice_get-get_or entries i UnassignedNs within ∙ ap Some (sym (entry_back e) ∙ (λ t. entry_from (same_kind t) (same_address t)))

-- those of entries of which one is replaced
pub columns-set : (entries : List Entry) (kinds : List Kind) (addresses : List ℕ) (at : ℕ) (e : Entry) → AreColumns entries kinds addresses
    → AreColumns (set entries at e) (set kinds at (kind_of e)) (set addresses at (entry_address e))
columns-set entries kinds addresses at e columns = record {
  of_kinds = ap (λ (ks : List Kind). set ks at (kind_of e)) columns.of_kinds ∙ sym (map-set kind_of entries at e);
  of_addresses = ap (λ (cells : List ℕ). set cells at (entry_address e)) columns.of_addresses ∙ sym (map-set entry_address entries at e);
}

-- an entry's RIPAS is told by its kind alone
kind-ripas : (ripas : Ripas) (e : Entry) → kind_of (entry_with_ripas ripas e) ≡ kind_with_ripas ripas (kind_of e)
kind-ripas ripas (Unassigned Empty) = refl
kind-ripas ripas (Assigned Empty granule) = refl
kind-ripas ripas _ = refl

-- and not by its address
address-ripas : (ripas : Ripas) (e : Entry) → entry_address (entry_with_ripas ripas e) ≡ entry_address e
address-ripas ripas (Unassigned old) = refl
address-ripas ripas _ = refl

-- where m elements after the first n are changed, f tells of each what g makes of what it told before
map-stretch : {X Y : Type 0} (f : X → Y) (change : X → X) (g : Y → Y) → ((x : X) → f (change x) ≡ g (f x)) → (m n : ℕ) (xs : List X)
    → map f (take n xs ++ (map change (take m (drop n xs)) ++ drop m (drop n xs)))
    ≡ take n (map f xs) ++ (map g (take m (drop n (map f xs))) ++ drop m (drop n (map f xs)))
map-stretch f change g each zero zero xs = refl
map-stretch f change g each (suc m) zero [] = refl
map-stretch f change g each (suc m) zero (x ∷ xs) = λ i. each x i ∷ map-stretch f change g each m zero xs i
map-stretch f change g each zero (suc n) [] = refl
map-stretch f change g each (suc m) (suc n) [] = refl
map-stretch f change g each zero (suc n) (x ∷ xs) = ap (λ ys. f x ∷ ys) (map-stretch f change g each zero n xs)
map-stretch f change g each (suc m) (suc n) (x ∷ xs) = ap (λ ys. f x ∷ ys) (map-stretch f change g each (suc m) n xs)

-- and where f tells the same of each, it tells the same of all
map-kept : {X Y : Type 0} (f : X → Y) (change : X → X) → ((x : X) → f (change x) ≡ f x) → (m n : ℕ) (xs : List X)
    → map f (take n xs ++ (map change (take m (drop n xs)) ++ drop m (drop n xs))) ≡ map f xs
map-kept f change same zero zero xs = refl
map-kept f change same (suc m) zero [] = refl
map-kept f change same (suc m) zero (x ∷ xs) = λ i. same x i ∷ map-kept f change same m zero xs i
map-kept f change same zero (suc n) [] = refl
map-kept f change same (suc m) (suc n) [] = refl
map-kept f change same zero (suc n) (x ∷ xs) = ap (λ ys. f x ∷ ys) (map-kept f change same zero n xs)
map-kept f change same (suc m) (suc n) (x ∷ xs) = ap (λ ys. f x ∷ ys) (map-kept f change same (suc m) n xs)

-- as many entries as lie between two places, counted from the first, end at the last
stretch-ends : (first last : ℕ) (ripas : Ripas) (entries : List Entry) → first ≤ last
    → take first entries ++ (map (entry_with_ripas ripas) (take (last - first) (drop first entries)) ++ drop (last - first) (drop first entries))
    ≡ entries_with_ripas first last ripas entries
unfolding entries_with_ripas
stretch-ends first last ripas entries order =
    let reach : first + (last - first) ≡ last = omega arith in
    let ends : drop (last - first) (drop first entries) ≡ drop last entries =
    drop-drop (last - first) first entries ∙ ap (λ (n : ℕ). drop n entries) reach in
    ap (λ (rest : List Entry). take first entries ++ (map (entry_with_ripas ripas) (take (last - first) (drop first entries)) ++ rest)) ends

-- those of entries of which a stretch has another RIPAS: the kinds of the stretch change, and no address does
pub columns-ripas : (entries : List Entry) (kinds changed : List Kind) (addresses : List ℕ) (first last : ℕ) (ripas : Ripas)
    → AreColumns entries kinds addresses
    → first ≤ last → changed ≡ map (kind_with_ripas ripas) (slice_range kinds first last)
    → AreColumns (entries_with_ripas first last ripas entries) (put_mid first (last - first) kinds changed) addresses
columns-ripas entries kinds changed addresses first last ripas columns order is_changed =
    let m : ℕ = last - first in
    let ends = stretch-ends first last ripas entries order in
    let written : put_mid first m kinds changed
    ≡ take first kinds ++ (map (kind_with_ripas ripas) (take m (drop first kinds)) ++ drop m (drop first kinds)) =
    ap (λ (middle : List Kind). take first kinds ++ (middle ++ drop m (drop first kinds))) is_changed in
    let told =
    ap (λ (ks : List Kind). take first ks ++ (map (kind_with_ripas ripas) (take m (drop first ks)) ++ drop m (drop first ks))) columns.of_kinds in
    record {
      of_kinds = (written ∙ told) ∙ (sym (map-stretch kind_of (entry_with_ripas ripas) (kind_with_ripas ripas) (kind-ripas ripas) m first entries)
          ∙ ap (λ (es : List Entry). map kind_of es) ends);
      of_addresses = columns.of_addresses ∙ (sym (map-kept entry_address (entry_with_ripas ripas) (address-ripas ripas) m first entries)
          ∙ ap (λ (es : List Entry). map entry_address es) ends);
    }

-- entries with the same addresses are as many
pub as_many : (entries others : List Entry) (kinds changed : List Kind) (addresses : List ℕ)
    → AreColumns entries kinds addresses → AreColumns others changed addresses
    → length others ≡ length entries
as_many entries others kinds changed addresses columns changes =
    sym (length-map others entry_address)
    ∙ (ap (λ (cells : List ℕ). length cells) (sym changes.of_addresses ∙ columns.of_addresses) ∙ length-map entries entry_address)

-- copies of one element of which all after the first n are written over with another
pub halves-written : {X : Type 0} (n m : ℕ) (x y : X) (written : List X) → written ≡ map (λ (k : X). y) (slice_range (replicate (n + m) x) n (n + m))
    → put_mid n (n + m - n) (replicate (n + m) x) written ≡ replicate n x ++ replicate m y
halves-written {X = X} n m x y written is =
    let count : n + m - n ≡ m = omega arith in
    let split = sym (replicate-append-replicate n m x) in
    let front : take n (replicate (n + m) x) ≡ replicate n x = ap (take n) split ∙ take_at (replicate n x) (replicate m x) n (length-replicate n x) in
    let back : drop n (replicate (n + m) x) ≡ replicate m x = ap (drop n) split ∙ drop_at (replicate n x) (replicate m x) n (length-replicate n x) in
    let many : length (replicate m x) ≤ m = omega (arith, length-replicate m x) in
    let middle : written ≡ replicate m y =
    is ∙ ((λ i. map (λ (k : X). y) (take (count i) (back i)))
    ∙ (ap (map (λ (k : X). y)) (take_all m (replicate m x) many) ∙ map-copies (λ (k : X). y) m x)) in
    let end : drop (n + m - n) (drop n (replicate (n + m) x)) ≡ [] = (λ i. drop (count i) (back i)) ∙ drop_all m (replicate m x) many in
    (λ i. front i ++ (middle i ++ end i)) ∙ ap (λ ys. replicate n x ++ ys) (append-nil (replicate m y))
