-- What contracts see of a world's journal.
use Rattle.std.specs.Prelude.{ℕ, List}
use Rattle.rmm_spec.specs.World.{Commitment}
use Rattle.command_log.specs.Log.{Entry}
use Rattle.world.specs.declared.journal.Caller.{Caller}

-- All commits in their order, and for how many more there is room.
pub record JournalView : Type 0 where
  pub items : List Commitment
  pub room : ℕ

-- the commit, whose mark is its caller
abbrev pub commitment_of : Entry Caller → Commitment
commitment_of entry = record { cpu = entry.mark.cpu; number = entry.mark.number; command = entry.command; given = entry.given }
