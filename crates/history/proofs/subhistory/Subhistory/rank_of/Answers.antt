-- A place that is there is found.
use Rattle.std.proofs.Common.{ℕ, ◌<◌, ◌≤◌, length, get_or, arith, ap, sym, subst, ⊎_elim}
use Rattle.std.proofs.lemmas.Bool.{cases_lt}
use Rattle.std.proofs.lemmas.List.Sorted.{searched}
use Rattle.history.proofs.subhistory.Subhistory.rank_of.Goals as goal

pub unreachable-requires : goal.unreachable-requires
unreachable-requires c =
    let found = c.requires.found in
    let same = c.deref.ensures.value in
    let rising = subst (λ xs. (i j : ℕ) → i ≤ j → j < length xs → get_or xs i 0 ≤ get_or xs j 0) (sym same) c.requires.rising in
    let absent = rw c.in-Err.is at (searched c.deref.result.now c.args.place c.binary_search.result c.binary_search.ensures.position rising) in
    let within : found.0 < length c.deref.result.now = omega (arith, found.1, ap length same) in
    let is_place = ap (λ xs. get_or xs found.0 0) same in
    ⊎_elim (λ (below : found.0 < c.in-Err.field-0). let early = absent.1 found.0 below in omega (arith, early, is_place, found.2))
    (λ (above : c.in-Err.field-0 ≤ found.0). let late = absent.2 found.0 above within in omega (arith, late, is_place, found.2))
    (cases_lt found.0 c.in-Err.field-0)
