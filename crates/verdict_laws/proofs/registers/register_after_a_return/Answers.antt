use Rattle.verdict_laws.proofs.RegisterOrders.{HaveParts-return}
use Rattle.verdict_laws.proofs.registers.register_after_a_return.Goals as goal

pub returns : goal.returns
returns c = λ history register mine place cpu number given done possibilities begun next is_history is_register are_mine returned is_done are_next.
    HaveParts-return history is_history register mine place cpu number given returned done is_done possibilities begun next are_next
    is_register are_mine
