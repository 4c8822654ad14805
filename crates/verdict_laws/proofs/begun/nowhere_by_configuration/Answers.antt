use Rattle.verdict_laws.proofs.Configurations.{nowhere_alike}
use Rattle.verdict_laws.proofs.begun.nowhere_by_configuration.Goals as goal

pub returns : goal.returns
returns c = λ history one other state is_history reached also counts. nowhere_alike history is_history one other state reached also counts
