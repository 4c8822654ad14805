-- What keeps a table where it is.
use Rattle.std.proofs.Common.{◌≡◌, ℕ, ◌*◌, true, false, is_some, refl}
use Rattle.rmm_spec.specs.declared.call.Removal.{Removal}
use Rattle.rmm_spec.specs.declared.call.Removal.TheVariants.{Destroy, Fold}
use Rattle.rmm_spec.specs.State.{State}
use Rattle.rmm_spec.specs.Step.Table.{ripas_left}
use Rattle.rmm_spec.specs.Walk.{entry_at, has_entry}
use Rattle.explain.specs.Facts.{in_the_way}

-- where no entry does, it can be taken out
pub left_there : (removal : Removal) (s : State) (rd level number : ℕ)
    → has_entry s rd level number (in_the_way removal (entry_at s rd level (512 * number))) ≡ false
    → is_some (ripas_left removal s rd level number) ≡ true
unfolding ripas_left
left_there Destroy s rd level number none = rw none refl
left_there Fold s rd level number none = rw none refl
