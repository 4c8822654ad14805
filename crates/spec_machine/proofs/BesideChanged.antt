-- Where there is no realm, or no REC, nothing changes beside the cells.
use Rattle.spec_machine.proofs.Common.{◌≡◌, None, none-some, refl, ℕ}
use Rattle.rmm_spec.specs.declared.change.RecUpdate.{RecUpdate}
use Rattle.rmm_spec.specs.declared.change.RecUpdate.TheVariants.{Entered, Exited}
use Rattle.rmm_spec.specs.Cell as spec
use Rattle.rmm_spec.specs.Shape as shape
use Rattle.rmm_laws.specs.Whole.{places_of_rec}

pub no_rec-places : (places : ℕ → shape.CpuPlace) (address : ℕ) (update : RecUpdate) (c : spec.Cell) → None ≡ spec.rec_in c
    → places ≡ places_of_rec places address update c
no_rec-places places address update (spec.Rec rec) none = absurd (none-some rec none)
no_rec-places places address (Entered cpu) _ none = refl
no_rec-places places address Exited _ none = refl
no_rec-places places address _ _ none = refl
