use Rattle.granule_cells.specs.PlaceLaws.{shaped-root}
use Rattle.granule_cells.proofs.applying.root_place.Goals as goal

pub returns-clause-shaped : goal.returns-clause-shaped
returns-clause-shaped c = shaped-root c.args.rd c.args.width c.args.level c.requires
