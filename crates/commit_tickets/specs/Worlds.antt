-- A world in which a CPU commits.
use Rattle.std.specs.Prelude.{◌≡◌, List, map}
use Rattle.rmm_spec.specs.Local.{HeldCell}
use Rattle.rmm_spec.specs.Run.{JournalEntry}
use Rattle.rmm_spec.specs.World.{World, Commitment, held_cells}
use Rattle.command_core.specs.Seen.{place_of}
use Rattle.command_core.specs.Sides.{side_of}
use Rattle.commit_tickets.specs.View.{JournalView, TokenView, entry}

-- a commitment without its number
abbrev pub entry_for : Commitment → JournalEntry
entry_for commitment = entry commitment.cpu commitment.command commitment.given

-- The world has the journal's machine, entries and side table, the cells that the token's CPU holds, and its place.
pub record IsWorldOf (w : World) (journal : JournalView) (token : TokenView) (cells : List HeldCell) : Type 0 where
  pub same_config : w.config ≡ journal.config
  pub same_entries : map entry_for w.journal ≡ journal.entries
  pub same_side : w.side ≡ side_of journal.side
  pub same_cells : held_cells w token.cpu ≡ cells
  pub same_place : w.place token.cpu ≡ place_of token.place
