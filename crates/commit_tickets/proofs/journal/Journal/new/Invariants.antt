use Rattle.commit_tickets.proofs.Common.{◌≡◌, ◌+◌}
use Rattle.commit_tickets.specs.View.{first_tokens}
use Rattle.commit_tickets.proofs.journal.Journal.new.Given as goal

-- the tokens have a part each, and the rest is for the others
abbrev pub invariant-loop-cpu : goal.invariant-loop-cpu
invariant-loop-cpu g l = (l.tokens.items ≡ first_tokens l.cpu) × (l.rest.parts + l.cpu ≡ l.config.cpus) × (l.rest.amount ≡ 0)
