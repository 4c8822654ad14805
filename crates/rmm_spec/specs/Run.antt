-- Runs of the machine: one step after another.
use Rattle.std.specs.Prelude.{◌≡◌, ℕ, List, [], ◌∷◌}
use Rattle.rmm_spec.specs.declared.command.Command.{Command}
use Rattle.rmm_spec.specs.declared.reply.Reply.{Reply}
use Rattle.rmm_spec.specs.State.{State}
use Rattle.rmm_spec.specs.Step.{Step}

-- one commit: a CPU's command and its reply
pub record JournalEntry : Type 0 where
  pub cpu : ℕ
  pub command : Command
  pub given : Reply

-- from old, the machine may commit these entries in order and come to last
abbrev pub IsRun : State → List JournalEntry → State → Type 0
IsRun old [] last = last ≡ old
IsRun old (entry ∷ entries) last =
    (next : State) × Step old entry.cpu entry.command entry.given next × IsRun next entries last
