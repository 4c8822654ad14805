use Rattle.monitor.proofs.Common.{arith}
use Rattle.monitor.proofs.ToldLines.{ComesBefore-tickets}
use Rattle.monitor.proofs.told_order.told_calls_come_first.Goals as goal

pub returns : goal.returns
returns c config tokens events lines closed told_cpu told_number told_ticket told cpu number ticket has before is_told past =
    ComesBefore-tickets config tokens events lines closed told_cpu told_number told_ticket cpu number ticket told has (omega (arith, is_told, past))
