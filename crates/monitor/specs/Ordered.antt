-- What the entry of a draft shows of its CPU's pass.
use Rattle.std.specs.Prelude.{◌≡◌, ◌⊎◌, List, ◌++◌}
use Rattle.rmm_spec.specs.declared.reply.Reply.{Reply}
use Rattle.rmm_spec.specs.Run.{JournalEntry}
use Rattle.event_queue.specs.Stages as stages
use Rattle.event_queue.specs.Stages.{entry_at}
use Rattle.event_queue.specs.View.{CpuView}

-- the pass has committed its call with the reply that the journal has gained, or both are as they were
abbrev pub IsInStep : CpuView → CpuView → List JournalEntry → List JournalEntry → Type 0
IsInStep old new before after =
    ((given : Reply) × (after ≡ before ++ entry_at old.stage old.cpu given) × (new ≡ record old { stage = stages.Committed given }))
    ⊎ ((after ≡ before) × (new ≡ old))
