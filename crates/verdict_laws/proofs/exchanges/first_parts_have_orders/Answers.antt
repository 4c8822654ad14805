use Rattle.verdict_laws.proofs.Parts.{first_part_order}
use Rattle.verdict_laws.proofs.exchanges.first_parts_have_orders.Goals as goal

pub returns : goal.returns
returns c = λ history count lines is_history. first_part_order history is_history count lines
