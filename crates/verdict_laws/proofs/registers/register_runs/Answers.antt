use Rattle.verdict_laws.proofs.RegisterRuns.{register-runs}
use Rattle.verdict_laws.proofs.registers.register_runs.Goals as goal

pub returns : goal.returns
returns c = λ history register mine place lines more is_history is_register are_mine linear made.
    register-runs history register mine place lines more is_history is_register are_mine linear made
