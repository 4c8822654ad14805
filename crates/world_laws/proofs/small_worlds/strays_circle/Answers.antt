use Rattle.world_laws.proofs.Strays.{strays_circle}
use Rattle.world_laws.proofs.small_worlds.strays_circle.Goals as goal

pub returns : goal.returns
returns c = strays_circle
