-- A change of the whole is the change of its flat state, and keeps it well shaped.
use Rattle.spec_machine.proofs.Common.{◌∙◌, ◌≡◌, Granules, IsShapedIn, config_of, flat_state, state_in, subst₂, sym, whole_of}
use Rattle.rmm_spec.specs.declared.change.Change.{Change}
use Rattle.rmm_spec.specs.Applicable.{CanApply}
use Rattle.rmm_spec.specs.Change.{changed}
use Rattle.rmm_laws.specs.Whole.{IsShaped, whole_changed}
use Rattle.rmm_laws.proofs.ShapeChanges.{changes-keep_shape}

pub made : (old new : Granules) (change : Change) → IsShapedIn old → CanApply (state_in old) change → config_of new ≡ config_of old
    → whole_of new ≡ whole_changed (config_of old) (whole_of old) change → IsShapedIn new × (state_in new ≡ changed (state_in old) change)
unfolding state_in
made old new change shaped can size whole =
    let kept = changes-keep_shape (config_of old) (whole_of old) change shaped can in
    (subst₂ IsShaped (sym size) (sym whole) kept.0, (λ i. flat_state (size i) (whole i).cells) ∙ kept.1)

-- what is as it was stands for the same state
pub same : (old new : Granules) → config_of new ≡ config_of old → whole_of new ≡ whole_of old → state_in new ≡ state_in old
unfolding state_in
same old new size whole = λ i. flat_state (size i) (whole i).cells

pub same-shaped : (old new : Granules) → IsShapedIn old → config_of new ≡ config_of old → whole_of new ≡ whole_of old → IsShapedIn new
same-shaped old new shaped size whole = subst₂ IsShaped (sym size) (sym whole) shaped
