-- What is answered to a command while the side table isn't at hand, as if that listed nothing, and which side tables bear it out.
-- This project's own.
use Rattle.std.specs.Prelude.{ℕ, Bool, true, ◌&&◌, ◌==◌, nat_le, is_none, Option, Some, None, Result, Ok}
use Rattle.rmm_spec.specs.HistoryText.{Config}
use Rattle.rmm_spec.specs.declared.accepted.Accepted.{Accepted}
use Rattle.rmm_spec.specs.declared.accepted.Accepted.TheVariants.{Done}
use Rattle.rmm_spec.specs.declared.call.Call.{Call}
use Rattle.rmm_spec.specs.declared.call.Call.TheVariants.{RealmCreate, RealmDestroy}
use Rattle.rmm_spec.specs.declared.change.Change.{Change}
use Rattle.rmm_spec.specs.declared.change.Change.TheVariants.{Unchanged, RecMade}
use Rattle.rmm_spec.specs.declared.command.Command.{Command}
use Rattle.rmm_spec.specs.declared.refusal.Refusal.{Refusal}
use Rattle.rmm_spec.specs.declared.reply.Reply.{Reply}
use Rattle.rmm_spec.specs.Shape.{Side}
use Rattle.rmm_spec.specs.Local.{Hold}
use Rattle.command_core.specs.Changed.{Decides, CanChange, CanMake, IsFurthest}

-- no realm has a VMID, and none has a REC
abbrev pub unlisted : Side
unlisted = record { vmids = λ vmid. None; rec_counts = λ rd. 0 }

-- the side table, or where there is none, one that lists nothing
abbrev pub side_or_unlisted : Option Side → Side
side_or_unlisted None = unlisted
side_or_unlisted (Some side) = side

-- ---- what is decided

-- the change of an answer: a refusal changes nothing
abbrev pub change_of : Result Accepted Refusal → Change
change_of (Ok (Done words change)) = change
change_of _ = Unchanged

-- the reply with the change is a local step, as far as it may go, and the change can be made of what is held
pub record IsDecision (config : Config) (cpu : ℕ) (command : Command) (hold : Hold) (given : Reply) (change : Change) : Type 0 where
  pub decides : Decides config cpu command hold given change
  pub furthest : IsFurthest config cpu command hold given
  pub can : CanChange cpu hold change
  pub makes : CanMake hold change

-- ---- what bears it out

-- of what the command's rows ask for, the side table lists nothing
abbrev pub lists_none : Side → Call → Bool
lists_none side (RealmCreate rd root width level vmid algo) = nat_le vmid 0xff && is_none (side.vmids vmid)
lists_none side (RealmDestroy rd) = side.rec_counts rd == 0
lists_none side _ = true

-- a REC that is made can be counted
abbrev pub has_count : ℕ → Side → Change → Bool
has_count granules side (RecMade rd rec mpidr flags aux0 aux1) = nat_le (side.rec_counts rd) granules
has_count granules side _ = true

abbrev pub bears_out : ℕ → Side → Call → Change → Bool
bears_out granules side call change = lists_none side call && has_count granules side change
