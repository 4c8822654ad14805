-- The loops and the recursion of a walk, beside the searches of the definitions.
use Rattle.std.proofs.Common.{◌≡◌, ℕ, zero, suc, ◌-◌, ◌<◌, Bool, true, false, is_some, refl, sym, ap, ◌∙◌, arith}
use Rattle.rmm_spec.specs.Lookup.{any_below}
use Rattle.rmm_spec.specs.State.{State}
use Rattle.rmm_spec.specs.Walk.{reach, table_number}
use Rattle.spec_lemmas.proofs.Placed.{any_below-from}

-- one of so many passes
pub one_passes : (passes : ℕ → Bool) (many place : ℕ) → place < many → true ≡ passes place → true ≡ any_below many passes
one_passes passes many place below holds = sym (any_below-from many passes place below (sym holds))

-- none does, once all are looked at
pub none_passes : (passes : ℕ → Bool) (many count : ℕ) → count ≡ many → any_below count passes ≡ false → false ≡ any_below many passes
none_passes passes many count all none = sym none ∙ ap (λ n. any_below n passes) all

-- a walk ends at its last level where a table of it covers the address
pub ends_here : (s : State) (rd ipa max : ℕ) → 0 < max → true ≡ is_some (s.table rd max (table_number max ipa)) → max ≡ reach s rd ipa max
unfolding reach
ends_here s rd ipa zero some covers = absurd (omega arith)
ends_here s rd ipa (suc max) some covers = rw (← covers) refl

-- and above it where none does
pub ends_above : (s : State) (rd ipa max : ℕ) → 0 < max → false ≡ is_some (s.table rd max (table_number max ipa))
    → reach s rd ipa (max - 1) ≡ reach s rd ipa max
unfolding reach
ends_above s rd ipa zero some covers = absurd (omega arith)
ends_above s rd ipa (suc max) some covers = let less : suc max - 1 ≡ max = omega arith in rw (← covers, less) refl
