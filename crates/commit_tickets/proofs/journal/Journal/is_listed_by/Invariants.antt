use Rattle.commit_tickets.proofs.Common.{numbers_of}
use Rattle.commit_tickets.proofs.Lists.{Remain}
use Rattle.commit_tickets.proofs.journal.Journal.is_listed_by.Given as goal

abbrev pub invariant-loop-ticket : goal.invariant-loop-ticket
invariant-loop-ticket g l = Remain l.tokens l.self.entries l.ticket (numbers_of l.numbers)
