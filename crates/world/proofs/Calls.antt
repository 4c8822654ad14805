-- A CPU's program: what is left of it.
use Rattle.world.proofs.Common.{◌∷◌, ◌≡◌, List, None, Some, World, [], ap, drop, inr, none-some, refl, same_Some, slice_get, sym, ℕ}
use Rattle.rmm_spec.specs.World.{Between}
use Rattle.rmm_spec.specs.declared.turn.Will.TheVariants.{Go}
use Rattle.rmm_spec.specs.Waits.{IsIdle}

-- a list that has a first element has others behind it
pub first-and_others : {A : Type 0} (xs : List A) (x : A) → slice_get xs 0 ≡ Some x → xs ≡ x ∷ drop 1 xs
first-and_others [] x is = absurd (none-some x is)
first-and_others (first ∷ xs) x is = ap (λ y. y ∷ xs) (same_Some first x is)

-- one that has none is empty
pub no_first : {A : Type 0} (xs : List A) → slice_get xs 0 ≡ None → xs ≡ []
no_first [] is = refl
no_first (first ∷ xs) is = absurd (none-some first (sym is))

-- who has called all commands has nothing to do
pub all-called : (w : World) (cpu number : ℕ) → w.phase cpu ≡ Between number → slice_get (w.program cpu) 0 ≡ None → IsIdle w cpu Go
all-called w cpu number between none = inr (record { number = number; is_between = between; none_left = no_first (w.program cpu) none })
