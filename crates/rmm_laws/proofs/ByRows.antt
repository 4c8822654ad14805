-- A command that is accepted: each of its rows holds, and what is done is what the definition says.
use Rattle.std.proofs.Common.{◌≡◌, Bool, true, false, if◌then◌else◌, IsTrue, List, [], ◌∷◌, refl}
use Rattle.std.specs.Prelude.{Result, Ok, Err}
use Rattle.std.specs.List.{AllByRecursion}
use Rattle.rmm_spec.specs.declared.accepted.Accepted.{Accepted}
use Rattle.rmm_spec.specs.declared.refusal.Refusal.{Refusal}
use Rattle.rmm_spec.specs.Rows.{Row, decided}

-- each row holds
abbrev pub AllHold : List Row → Type 0
AllHold rows = AllByRecursion (λ (r : Row). IsTrue r.holds) rows

-- one row, by whether it holds
pub row_holds : (Later : Type 0) (holds : Bool) (later : Result Accepted Refusal) (otherwise : Refusal) (a : Accepted)
    → (if holds then later else Err otherwise) ≡ Ok a → (IsTrue holds → later ≡ Ok a → Later) → Later
row_holds Later true later otherwise a is next = next refl is
row_holds Later false later otherwise a is next = absurd (let bad : Err otherwise ≡ Ok a = is in cc)

-- where rows lead to something that is done, each holds
pub decided-accepted : (rows : List Row) (accepted found : Accepted) → decided rows accepted ≡ Ok found → AllHold rows × (accepted ≡ found)
decided-accepted [] accepted found is = (tt, let same : Ok accepted ≡ Ok found = is in cc)
decided-accepted (row ∷ rows) accepted found is =
    row_holds (AllHold (row ∷ rows) × (accepted ≡ found)) row.holds (decided rows accepted) row.otherwise found is
    (λ holds later. let rest = decided-accepted rows accepted found later in ((holds, rest.0), rest.1))
