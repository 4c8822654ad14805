-- By its row.
use Rattle.std.proofs.Common.{ap}
use Rattle.rmm_spec.specs.Rows.{Needed}
use Rattle.explain.proofs.Befores.{granule_by}
use Rattle.explain.proofs.before.granule_before.Goals as goal

pub returns : goal.returns
returns c s report =
    granule_by s c.name.inside.granule c.args.name.granule c.found_tag.result c.owner_of.result (ap (λ (n : Needed). n.granule) c.name.view_is)
    (c.found_tag.ensures s report) (c.owner_of.ensures s report)
