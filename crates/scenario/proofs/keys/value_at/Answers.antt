use Rattle.toml.proofs.Views.{table_get}
use Rattle.scenario.proofs.keys.value_at.Goals as goal

pub returns : goal.returns
returns c = table_get _ c.args.key.now _ c.get.ensures.value
