use Rattle.verdict_laws.proofs.Survival.{AreKept-return}
use Rattle.verdict_laws.proofs.exchanges.all_kept_behind_a_return.Goals as goal

pub returns : goal.returns
returns c = λ history place cpu number given orders next is_history returned.
    AreKept-return history is_history place cpu number given returned orders next
