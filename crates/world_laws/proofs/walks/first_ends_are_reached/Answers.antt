use Rattle.world_laws.proofs.Common.{seen_state}
use Rattle.world_laws.proofs.Settled.{first-reached}
use Rattle.world_laws.proofs.walks.first_ends_are_reached.Goals as goal

pub returns : goal.returns
returns c = λ config cpu held call stretch is. first-reached (seen_state config held) cpu call stretch is
