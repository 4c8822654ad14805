-- Where a walk ends, level by level.
use Rattle.command_core.proofs.Common.{◌-◌, ◌<◌, ◌≡◌, State, arith, false, is_some, refl, suc, true, zero, ℕ}
use Rattle.rmm_spec.specs.Walk.{reach, table_number}

-- the walk up to a level ends there, where that has a table
pub reach-here : (s : State) (rd ipa level : ℕ)
    → 0 < level → is_some (s.table rd level (table_number level ipa)) ≡ true → level ≡ reach s rd ipa level
unfolding reach
reach-here s rd ipa zero some there = absurd (omega arith)
reach-here s rd ipa (suc level) some there = rw there refl

-- and at the level above, where that has none
pub reach-above : (s : State) (rd ipa level : ℕ) → 0 < level → is_some (s.table rd level (table_number level ipa)) ≡ false
    → reach s rd ipa (level - 1) ≡ reach s rd ipa level
unfolding reach
reach-above s rd ipa zero some none = absurd (omega arith)
reach-above s rd ipa (suc level) some none = let above : suc level - 1 ≡ level = omega arith in rw (none, above) refl
