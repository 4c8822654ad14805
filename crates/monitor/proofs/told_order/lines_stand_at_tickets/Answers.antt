use Rattle.monitor.proofs.ToldLines.{NamesAt-ticket}
use Rattle.monitor.proofs.told_order.lines_stand_at_tickets.Goals as goal

pub returns : goal.returns
returns c = NamesAt-ticket
