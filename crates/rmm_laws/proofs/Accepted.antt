-- What an accepted command makes of a whole: its change, which leaves the whole well shaped, is a step of the machine.
use Rattle.rmm_laws.proofs.ShapeCommon.{◌≡◌, Config, IsShaped, List, Whole, cells_changed, flat_state, refl, subst, sym, ℕ}
use Rattle.std.proofs.Common.{[], ◌∷◌, Ok}
use Rattle.rmm_spec.specs.declared.accepted.Accepted.TheVariants.{Reaches}
use Rattle.rmm_spec.specs.declared.accepted.Stretch.{Stretch}
use Rattle.rmm_spec.specs.declared.change.Change.{Change}
use Rattle.rmm_spec.specs.declared.command.Command.{Command}
use Rattle.rmm_spec.specs.Call.{call_of}
use Rattle.rmm_spec.specs.Rows.{ok, done}
use Rattle.rmm_spec.specs.Step.{Step, CarriesOut, outcome}
use Rattle.rmm_spec.specs.Step.Ripas.{IsReached, reached_change}
use Rattle.rmm_laws.proofs.Runs.{done_applies, reached_applies}
use Rattle.rmm_laws.specs.Whole.{whole_changed}
use Rattle.rmm_laws.proofs.ShapeChanges.{changes-keep_shape}
use Rattle.rmm_laws.proofs.ShapeTies.{well_shaped-is_sound}

pub done-keeps_shape : (config : Config) (w : Whole) (cpu : ℕ) (command : Command) (words : List ℕ) (change : Change) → IsShaped config w
    → outcome (flat_state config w.cells) cpu (call_of command) ≡ Ok (done words change)
    → IsShaped config (whole_changed config w change)
    × Step (flat_state config w.cells) cpu command (ok words) (flat_state config (cells_changed config w.cells change))
done-keeps_shape config w cpu command words change shaped accepted =
    let s = flat_state config w.cells in
    let sound = well_shaped-is_sound config w.side w.places w.cells shaped in
    let new = changes-keep_shape config w change shaped (done_applies s cpu command words change sound accepted) in (
      new.0,
      subst (λ o. CarriesOut o s (ok words) (flat_state config (cells_changed config w.cells change))) (sym accepted) (refl, new.1),
    )

pub reached-keeps_shape : (config : Config) (w : Whole) (cpu : ℕ) (command : Command) (stretch : Stretch) (top : ℕ) → IsShaped config w
    → outcome (flat_state config w.cells) cpu (call_of command) ≡ Ok (Reaches stretch) → IsReached (flat_state config w.cells) stretch top
    → IsShaped config (whole_changed config w (reached_change stretch top))
    × Step (flat_state config w.cells) cpu command (ok (top ∷ [])) (flat_state config (cells_changed config w.cells (reached_change stretch top)))
reached-keeps_shape config w cpu command stretch top shaped accepted reached =
    let s = flat_state config w.cells in
    let sound = well_shaped-is_sound config w.side w.places w.cells shaped in
    let new = changes-keep_shape config w (reached_change stretch top) shaped (reached_applies s cpu command stretch top sound accepted reached) in (
      new.0,
      subst (λ o. CarriesOut o s (ok (top ∷ [])) (flat_state config (cells_changed config w.cells (reached_change stretch top)))) (sym accepted)
          (top, (reached, refl, new.1)),
    )
