-- What the commands lead to that lend a granule and take it back.
use Rattle.std.specs.Prelude.{ℕ, not, [], ◌∷◌, Result, Err, if◌then◌else◌}
use Rattle.rmm_spec.specs.declared.accepted.Accepted.{Accepted}
use Rattle.rmm_spec.specs.declared.change.Change.TheVariants.{Retagged}
use Rattle.rmm_spec.specs.declared.refusal.Refusal.{Refusal}
use Rattle.rmm_spec.specs.declared.condition.Condition.TheVariants.{GranState, OwnOutside}
use Rattle.rmm_spec.specs.declared.refusal.Refusal.TheVariants.{Misplaced}
use Rattle.rmm_spec.specs.Lookup.{has_tag, is_inside}
use Rattle.rmm_spec.specs.Rows.{decided, input, done}
use Rattle.rmm_spec.specs.State.{State}
use Rattle.spec_machine.specs.declared.lending.Lending.{Lending}

-- outside of a REC the granule gets its tag, where it has the one that is asked for
abbrev pub lending_outcome : State → ℕ → Lending → Result Accepted Refusal
lending_outcome s cpu lending =
    if not (is_inside s cpu)
    then decided (input GranState (has_tag s lending.granule lending.from) ∷ [])
    (done [] (Retagged (record { granule = lending.granule; tag = lending.to })))
    else Err (Misplaced OwnOutside)
