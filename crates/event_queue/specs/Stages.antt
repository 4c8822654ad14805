-- How far a CPU is with its last call.
use Rattle.std.specs.Prelude.{ℕ, List, [], ◌∷◌}
use Rattle.rmm_spec.specs.declared.command.Command.{Command}
use Rattle.rmm_spec.specs.declared.event.Event.{Event}
use Rattle.rmm_spec.specs.declared.event.Event.TheVariants.{Called, Returned}
use Rattle.rmm_spec.specs.declared.reply.Reply.{Reply}
use Rattle.rmm_spec.specs.Run.{JournalEntry}

pub data Stage : Type 0 where
  -- no call is open
  Idle : Stage
  -- the open call isn't committed
  Open : Command → Stage
  -- the open call is committed with this reply
  Committed : Reply → Stage

abbrev pub stage_after : Event → Stage
stage_after (Called cpu number command) = Open command
stage_after (Returned cpu number given) = Idle

-- the journal's entry for the open call of a CPU, with this reply
abbrev pub entry_at : Stage → ℕ → Reply → List JournalEntry
entry_at Idle cpu reply = []
entry_at (Open command) cpu reply = record { cpu = cpu; command = command; given = reply } ∷ []
entry_at (Committed given) cpu reply = []
