-- The row of the granule tells its tag.
use Rattle.explain.proofs.Owners.{tag-owner_rows, is_granule-no_row}
use Rattle.explain.proofs.fact.found_tag.Goals as goal

pub returns-in-Some : goal.returns-in-Some
returns-in-Some c s report =
    tag-owner_rows s c.args.owners.now c.args.granule c.in-Some.row report c.in-Some.ensures.some.0 c.in-Some.ensures.some.1

pub returns-in-None : goal.returns-in-None
returns-in-None c s report = is_granule-no_row s c.args.owners.now c.args.granule report c.in-None.ensures.none
