-- The granules before this one are the machine's, and noted.
use Rattle.std.proofs.Common.{◌≡◌, ◌<◌, ℕ, true, Some}
use Rattle.std.specs.List.{slice_get}
use Rattle.rmm_spec.specs.Lookup.{is_granule}
use Rattle.slicing.specs.Plans.{mark_of}
use Rattle.slicing.proofs.cut.are_lent.Given as goal

abbrev pub invariant-loop-index : goal.invariant-loop-index
invariant-loop-index l = (index : ℕ) → index < l.index → (granule : ℕ) → slice_get l.plan.lent.items index ≡ Some granule
    → (is_granule l.history.recorded.config.granules granule ≡ true) × ((mark_of l.plan.marks.items granule).lending ≡ Some index)
