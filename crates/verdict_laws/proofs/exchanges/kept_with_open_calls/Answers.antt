use Rattle.verdict_laws.proofs.Growing.{IsKept-append}
use Rattle.verdict_laws.proofs.exchanges.kept_with_open_calls.Goals as goal

pub returns : goal.returns
returns c = λ history place lines more old new is_history. IsKept-append history is_history place lines more old new
