use Rattle.commit_tickets.proofs.Common.{length}
use Rattle.commit_tickets.proofs.journal.Journal.+audit_from.Given as goal

abbrev pub decreases-audit_from : goal.decreases-audit_from
decreases-audit_from g l = length l.tokens.now
