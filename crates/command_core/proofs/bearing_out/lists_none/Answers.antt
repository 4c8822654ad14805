use Rattle.command_core.proofs.Common.{◌≡◌, List, refl, side_of, true, ℕ}
use Rattle.rmm_spec.specs.declared.function_id.FunctionId.{FunctionId}
use Rattle.rmm_spec.specs.declared.function_id.FunctionId.TheVariants as function
use Rattle.rmm_spec.specs.Call.{call_from}
use Rattle.rmm_spec.specs.Shape.{Side}
use Rattle.command_core.specs.Foreseen.{lists_none}
use Rattle.command_core.proofs.bearing_out.lists_none.Goals as goal

unasked : (side : Side) (f : FunctionId) (words : List ℕ) → (f ≡ function.RealmCreate → ⊥) → (f ≡ function.RealmDestroy → ⊥)
    → true ≡ lists_none side (call_from f words)
unfolding call_from
unasked side function.RealmCreate words created destroyed = absurd (created refl)
unasked side function.RealmDestroy words created destroyed = absurd (destroyed refl)
unasked side _ words created destroyed = refl

pub returns-in_default : goal.returns-in_default
returns-in_default c = unasked (side_of c.args.side.now)
    c.args.command.now.function c.args.command.now.words.items c.in_default.not-RealmCreate c.in_default.not-RealmDestroy
