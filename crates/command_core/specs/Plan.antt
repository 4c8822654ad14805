-- What a CPU does next, told by what it holds: it commits where that allows a local step, takes a lock at a rising take alone,
-- or gives one back. This project's own.
use Rattle.std.specs.Prelude.{◌≡◌, ℕ, Bool, true, false, ◌==◌, IsTrue, List, Option, Some, None, Contains}
use Rattle.rmm_spec.specs.HistoryText.{Config}
use Rattle.rmm_spec.specs.declared.call.Call.{Call}
use Rattle.rmm_spec.specs.declared.call.Call.TheVariants as call
use Rattle.rmm_spec.specs.declared.command.Command.{Command}
use Rattle.rmm_spec.specs.declared.reply.Reply.{Reply}
use Rattle.rmm_spec.specs.Call.{call_of}
use Rattle.rmm_spec.specs.State.{RecRecord}
use Rattle.rmm_spec.specs.Lookup.{is_granule}
use Rattle.rmm_spec.specs.Rows.{Needed}
use Rattle.rmm_spec.specs.Cell.{Rec}
use Rattle.rmm_spec.specs.Shape.{Side, CpuPlace, Outside}
use Rattle.rmm_spec.specs.Local.{HeldCell, Hold, granules_held, LocalStep}
use Rattle.rmm_spec.specs.Locks.{needs, IsRisingTake}
use Rattle.command_core.specs.declared.next.Next.{Next}
use Rattle.command_core.specs.declared.next.Next.TheVariants.{Take, Free, Ready}
use Rattle.command_core.specs.Seen.{cell_in}

-- some reply to the command, with some change of what is held, is a local step
pub record AllowsStep (config : Config) (cpu : ℕ) (command : Command) (hold : Hold) : Type 0 where
  pub given : Reply
  pub new : Hold
  pub step : LocalStep config cpu command given hold new

-- so it is whatever the side table has, and whichever CPU it is
pub record IsReady (config : Config) (command : Command) (place : CpuPlace) (held : List HeldCell) : Type 0 where
  pub allows : (cpu : ℕ) (side : Side) → AllowsStep config cpu command (record { cells = held; side = side; place = place })

-- ---- the next step

-- an Enter outside of RECs holds its REC and may learn that one's realm: a granule, and not the REC itself
pub record LearnsOwner (config : Config) (command : Call) (place : CpuPlace) (held : List HeldCell) (granule rd : ℕ) : Type 0 where
  pub rec : RecRecord
  pub is_held : Contains (granules_held held) granule
  pub is_outside : place ≡ Outside
  pub is_enter : command ≡ call.RecEnter granule
  pub is_rec : cell_in granule held ≡ Some (Rec rec)
  pub is_owner : rec.owner ≡ rd
  pub is_lock : IsTrue (is_granule config.granules rd)
  pub is_other : (rd == granule) ≡ false

-- a lock is taken at a rising take alone, and only what is held is freed
abbrev pub IsStep : Config → Call → CpuPlace → List Needed → List HeldCell → Next → Type 0
IsStep config call place names held (Take granule) = IsRisingTake config names held granule
IsStep config call place names held (Free granule None) = Contains (granules_held held) granule
IsStep config call place names held (Free granule (Some rd)) = LearnsOwner config call place held granule rd
IsStep config call place names held Ready = ⊥

-- and the CPU is ready where what it holds allows a local step
abbrev pub IsPlanned : Config → Command → CpuPlace → Option ℕ → List HeldCell → Next → Type 0
IsPlanned config command place learnt held Ready = IsReady config command place held
IsPlanned config command place learnt held (Take granule) =
    IsStep config (call_of command) place (needs place learnt (call_of command)) held (Take granule)
IsPlanned config command place learnt held (Free granule rd) =
    IsStep config (call_of command) place (needs place learnt (call_of command)) held (Free granule rd)

abbrev pub is_ready : Next → Bool
is_ready Ready = true
is_ready _ = false
