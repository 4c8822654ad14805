-- What a token was told of.
use Rattle.std.specs.Prelude.{ℕ, suc, ◌<◌, ◌≤◌, List, [], ◌∷◌}
use Rattle.commit_tickets.specs.Entries.{Committed}
use Rattle.commit_tickets.specs.View.{TokenView}

-- the token was told of the journal's entry of this ticket
abbrev pub IsToldOf : TokenView → ℕ → Type 0
IsToldOf token ticket = ticket < token.seen

-- the tickets rise, from this number or a later one on, and all are below the end
abbrev pub RiseWithin : ℕ → ℕ → List Committed → Type 0
RiseWithin start end [] = start ≤ end
RiseWithin start end (commit ∷ commits) = (start ≤ commit.ticket) × RiseWithin (suc commit.ticket) end commits
