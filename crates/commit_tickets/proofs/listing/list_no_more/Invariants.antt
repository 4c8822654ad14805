use Rattle.commit_tickets.proofs.Common.{ℕ, ◌<◌, ◌≤◌, length, mine_of, numbers_of}
use Rattle.commit_tickets.proofs.listing.list_no_more.Given as goal

abbrev pub invariant-loop-cpu : goal.invariant-loop-cpu
invariant-loop-cpu g l = (k : ℕ) → k < l.cpu → length (mine_of l.tokens k) ≤ numbers_of l.numbers k
