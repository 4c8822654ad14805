-- Which line of a certificate comes before which.
use Rattle.std.specs.Prelude.{◌≡◌, ℕ, ◌<◌, List, Some, slice_get}
use Rattle.rmm_spec.specs.declared.line.Line.{Line}
use Rattle.rmm_spec.specs.Linearization.{cpu_named, number_named}
use Rattle.commit_tickets.specs.Entries.{Committed}
use Rattle.commit_tickets.specs.Listed.{mine_of}
use Rattle.commit_tickets.specs.View.{TokenView}

-- the line at this place names the call
abbrev pub NamesAt : List Line → ℕ → ℕ → ℕ → Type 0
NamesAt lines place cpu number = (line : Line) × (slice_get lines place ≡ Some line) × (cpu_named line ≡ cpu) × (number_named line ≡ number)

-- the token of the call's CPU lists the call, at this ticket
abbrev pub HasTicket : List TokenView → ℕ → ℕ → ℕ → Type 0
HasTicket tokens cpu number ticket = (commit : Committed) × (slice_get (mine_of tokens cpu) number ≡ Some commit) × (commit.ticket ≡ ticket)

-- Both calls have a line, and that of the first comes before that of the later one.
pub record ComesBefore (lines : List Line) (cpu number later_cpu later_number : ℕ) : Type 0 where
  pub first : (place : ℕ) × NamesAt lines place cpu number
  pub later : (place : ℕ) × NamesAt lines place later_cpu later_number
  pub before : (place later_place : ℕ) → NamesAt lines place cpu number → NamesAt lines later_place later_cpu later_number → place < later_place
