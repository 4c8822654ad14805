use Rattle.merging.proofs.RoleLaws.{NamesAtPlaces-each}
use Rattle.merging.proofs.laws.command_granules.Goals as goal

pub returns : goal.returns
returns c = NamesAtPlaces-each
