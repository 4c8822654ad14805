-- Results of which more than their variant is known.
use Rattle.std.proofs.Common.{◌≡◌, Result, Ok, Err, refl}
use Rattle.std.specs.Result.{IsOkAnd}

-- what is a value with a property is no other variant
pub IsOkAnd-not_Ok : {T E : Type 0} (r : Result T E) (P : T → Type 0) → IsOkAnd r P → ((x : T) → r ≡ Ok x → ⊥) → ⊥
IsOkAnd-not_Ok (Ok x) P h none = none x refl
IsOkAnd-not_Ok (Err y) P h none = h
