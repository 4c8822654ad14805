use Rattle.world_laws.proofs.SmallRuns.{word_order_circle}
use Rattle.world_laws.proofs.small_worlds.word_order_circles.Goals as goal

pub returns : goal.returns
returns c = word_order_circle
