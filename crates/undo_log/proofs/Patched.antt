-- What is put in one after the other, and what was there, put back.
use Rattle.undo_log.proofs.Common.{List, [], ap, arith, length, refl, slice_index_or, sym, ℕ, ◌++◌, ◌+◌, ◌<◌, ◌∙◌, ◌∷◌, ◌≡◌}
use Rattle.std.proofs.Common.{drop, reverse, slice_set, take}
use Rattle.std.proofs.lemmas.Grind.{reverse_onto}
use Rattle.std.proofs.lemmas.List.{drop-set-lt, drop_more, reverse-reverse, take_more_set}
use Rattle.undo_log.specs.declared.patch.Replaced.{Replaced}
use Rattle.undo_log.specs.Patches.{Standing, put_all, put_in}

-- the last one is put in first
pub put_all-last : (items : List Replaced) (r : Replaced) (s : Standing) → put_all (items ++ r ∷ []) s ≡ put_all items (put_in r s)
put_all-last [] r s = refl
put_all-last (x ∷ items) r s = ap (put_in x) (put_all-last items r s)

-- once the next one is put in, the others lead to where all led
pub others_lead : (items : List Replaced) (at : ℕ) (given r : Replaced) (s t : Standing) → at < length items
    → t ≡ put_in (slice_index_or items at r) s
    → put_all (reverse (drop (at + 1) (slice_set items at given))) t ≡ put_all (reverse (drop at items)) s
others_lead items at given r s t within there =
    let next = slice_index_or items at r in
    let left = drop (at + 1) items in
    ap (λ xs. put_all (reverse xs) t) (drop-set-lt (at + 1) items at given (omega arith))
    ∙ ap (put_all (reverse left)) there
    ∙ sym (put_all-last (reverse left) next s)
    ∙ ap (λ xs. put_all xs s) (sym (reverse_onto left next []))
    ∙ ap (λ xs. put_all (reverse xs) s) (sym (drop_more items at r within))

-- what was there leads back, before what the others leave
pub leads_back : (items : List Replaced) (at : ℕ) (given : Replaced) (s t : Standing) → at < length items → put_in given t ≡ s
    → put_all (take (at + 1) (slice_set items at given)) t ≡ put_all (take at items) s
leads_back items at given s t within back =
    ap (λ xs. put_all xs t) (take_more_set items at given within) ∙ put_all-last (take at items) given t
    ∙ ap (put_all (take at items)) back

-- put in one after the other in the other order, the first one is last
pub all_there : (items each : List Replaced) (s t : Standing) → each ≡ reverse items → t ≡ put_all (reverse each) s → t ≡ put_all items s
all_there items each s t other there = there ∙ ap (λ xs. put_all (reverse xs) s) other ∙ ap (λ xs. put_all xs s) (reverse-reverse items)
