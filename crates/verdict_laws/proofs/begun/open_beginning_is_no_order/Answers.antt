use Rattle.verdict_laws.proofs.Nowhere.{none-from_nowhere}
use Rattle.verdict_laws.proofs.begun.open_beginning_is_no_order.Goals as goal

pub returns : goal.returns
returns c = none-from_nowhere
