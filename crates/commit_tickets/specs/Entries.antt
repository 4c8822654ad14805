-- Entries of the journal, and commits as the tokens list them.
use Rattle.std.specs.Prelude.{ℕ}
use Rattle.rmm_spec.specs.declared.command.Command.{Command}
use Rattle.rmm_spec.specs.declared.reply.Reply.{Reply}
use Rattle.rmm_spec.specs.Run as run
use Rattle.command_log.specs.Log.{Entry}

-- the journal's entry, whose mark is the CPU
abbrev pub entry_of : Entry ℕ → run.JournalEntry
entry_of entry = record { cpu = entry.mark; command = entry.command; given = entry.given }

-- A commit of one CPU, and its place in the journal.
pub record Committed : Type 0 where
  pub ticket : ℕ
  pub command : Command
  pub reply : Reply

-- the commit, whose mark is the ticket
abbrev pub committed_of : Entry ℕ → Committed
committed_of entry = record { ticket = entry.mark; command = entry.command; reply = entry.given }
