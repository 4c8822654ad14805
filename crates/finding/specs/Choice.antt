-- In which order calls are tried.
use Rattle.std.specs.Prelude.{◌≡◌, ℕ, ◌+◌, ◌^◌, ◌<◌, ◌≤◌, List, slice_index, Option, Some, None}
use Rattle.rmm_spec.specs.declared.event.Event.{Event}
use Rattle.rmm_spec.specs.declared.reply.Reply.{Reply}
use Rattle.rmm_spec.specs.HistoryText.{History}
use Rattle.rmm_spec.specs.Linearization.{IsReturned, IsKnown, IsFinished}
use Rattle.history.specs.Calls.{ArePlacesOf}
use Rattle.finding.specs.declared.choice.Choice.{Choice}

-- a call that hasn't returned is tried behind all places of returns, by its CPU
abbrev pub pending_rank : ℕ → ℕ
pending_rank cpu = 1000000 + cpu

abbrev pub rank_at : ℕ → Option ℕ → ℕ
rank_at cpu (Some place) = place
rank_at cpu None = pending_rank cpu

-- a call that has returned is tried at the place of its return
abbrev pub rank_of : Choice → ℕ
rank_of choice = rank_at choice.cpu choice.places.returned

-- when the call is tried that was found, which is behind all where none was
abbrev pub least_of : Option Choice → ℕ
least_of (Some choice) = rank_of choice
least_of None = 2 ^ 32

-- the call is the next of its CPU, of which so many stand in an order, and is tried at the rank or behind it
pub record IsNextCall (history : History) (counts : List ℕ) (from : ℕ) (choice : Choice) : Type 0 where
  pub of_machine : choice.cpu < history.config.cpus
  pub numbered : choice.number ≡ slice_index counts choice.cpu
  pub places : ArePlacesOf history.events choice.cpu choice.number choice.places
  pub ranked : from ≤ rank_of choice

-- the next call of a CPU, where it has one
abbrev pub IsNextOf : History → List ℕ → ℕ → Option Choice → Type 0
IsNextOf history counts cpu None = ¬ IsKnown history.events cpu (slice_index counts cpu)
IsNextOf history counts cpu (Some choice) = IsNextCall history counts 0 choice × (choice.cpu ≡ cpu)

-- Of the next calls of the first CPUs, so many, that are tried at one rank or behind it, each is tried at the least one or
-- behind it.
pub record IsLeast (events : List Event) (counts : List ℕ) (from bound least : ℕ) : Type 0 where
  pub returned : (cpu place : ℕ) (given : Reply) → cpu < bound → IsReturned events place cpu (slice_index counts cpu) given
      → from ≤ place → least ≤ place
  pub pending : (cpu : ℕ) → cpu < bound → IsKnown events cpu (slice_index counts cpu) → ¬ IsFinished events cpu (slice_index counts cpu)
      → from ≤ pending_rank cpu → least ≤ pending_rank cpu
