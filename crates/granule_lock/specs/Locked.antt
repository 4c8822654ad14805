-- What a CPU holds while it executes a command, and how it came to hold it.
use Rattle.std.specs.Prelude.{◌≡◌, ℕ, IsTrue, All, List, [], ◌∷◌, ◌++◌, Option, None}
use Rattle.rmm_spec.specs.HistoryText.{Config}
use Rattle.rmm_spec.specs.declared.call.Call.{Call}
use Rattle.rmm_spec.specs.Lookup.{is_granule}
use Rattle.rmm_spec.specs.Shape.{CpuPlace}
use Rattle.rmm_spec.specs.Local.{HeldCell, granules_held}
use Rattle.world_laws.specs.Replaced.{held_at}
use Rattle.granule_cells.specs.declared.cell.Cell.{Cell}
use Rattle.command_core.specs.declared.next.Next.{Next}
use Rattle.command_core.specs.declared.next.Next.TheVariants.{Take, Free, Ready}
use Rattle.command_core.specs.Next.{next}
use Rattle.command_core.specs.Seen.{cell_of}
use Rattle.command_core.specs.Pairs.{without_cell}

-- each cell that is held is of one of the machine's granules
abbrev pub AreGranules : ℕ → List HeldCell → Type 0
AreGranules granules held = All (λ g. IsTrue (is_granule granules g)) (granules_held held)

-- ---- the plan

-- what a CPU holds, and the realm that it has learnt
pub record Locking : Type 0 where
  pub held : List HeldCell
  pub learnt : Option ℕ

abbrev pub locking : List HeldCell → Option ℕ → Locking
locking held learnt = record { held = held; learnt = learnt }

-- a granule is taken behind the others with some cell, or freed alone
abbrev pub IsDone : Next → Locking → Locking → Type 0
IsDone (Take granule) old new = (cell : Cell) × (new ≡ locking (old.held ++ held_at granule (cell_of cell) ∷ []) old.learnt)
IsDone (Free granule owner) old new = new ≡ locking (without_cell granule old.held) owner
IsDone Ready old new = ⊥

-- what the plan says next is done
abbrev pub IsPlannedStep : Config → Call → CpuPlace → Locking → Locking → Type 0
IsPlannedStep config call place old new = IsDone (next config call place old.learnt old.held) old new

-- one step after the other
abbrev pub ArePlannedSteps : Config → Call → CpuPlace → Locking → List Locking → Locking → Type 0
ArePlannedSteps config call place old [] new = old ≡ new
ArePlannedSteps config call place old (step ∷ steps) new =
    IsPlannedStep config call place old step × ArePlannedSteps config call place step steps new

-- steps of the plan lead to it from a hold of none
pub record IsReached (config : Config) (call : Call) (place : CpuPlace) (now : Locking) : Type 0 where
  pub steps : List Locking
  pub planned : ArePlannedSteps config call place (locking [] None) steps now
