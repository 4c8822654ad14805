use Rattle.std.proofs.Common.{ℕ, ◌-◌, List, length, ap, ◌∙◌}
use Rattle.std.specs.Prelude.{slice_get}
use Rattle.granule_lock.specs.HeldCells.{hold_cells}
use Rattle.granule_lock.proofs.HeldGranules.{last-held}
use Rattle.granule_lock.proofs.locking.last_held.Goals as goal

pub returns-clause-last : goal.returns-clause-last
returns-clause-last c = c.copied.ensures ∙ c.last.ensures.value ∙ ap (λ (xs : List ℕ). slice_get xs (length xs - 1)) c.held.ensures

pub returns-clause-some : goal.returns-clause-some
returns-clause-some c = last-held (hold_cells c.args.hold.now) c.copied.result (returns-clause-last c)
