-- A journal before the first commit.
use Rattle.std.specs.Prelude.{◌≡◌, ℕ, [], None}
use Rattle.rmm_spec.specs.HistoryText.{Config}
use Rattle.command_core.specs.Sides.{side_of}
use Rattle.commit_tickets.specs.View.{JournalView}

-- No entry; no realm has a VMID, and none has a REC.
pub record IsOpening (size : Config) (journal : JournalView) : Type 0 where
  pub has_size : journal.config ≡ size
  pub no_entry : journal.entries ≡ []
  pub no_vmid : (vmid : ℕ) → (side_of journal.side).vmids vmid ≡ None
  pub no_rec : (rd : ℕ) → (side_of journal.side).rec_counts rd ≡ 0
