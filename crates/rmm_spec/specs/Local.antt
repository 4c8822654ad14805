-- The local step: a change of a few cells, made without a look at any other, that is a step of the machine whatever the
-- other cells are. It is what a commit under granule locks must be, in whatever order the locks were taken. This project's own.
use Rattle.std.specs.Prelude.{◌≡◌, ℕ, List, map}
use Rattle.std.specs.List.{AllByRecursion, fold}
use Rattle.rmm_spec.specs.HistoryText.{Config}
use Rattle.rmm_spec.specs.declared.command.Command.{Command}
use Rattle.rmm_spec.specs.declared.reply.Reply.{Reply}
use Rattle.rmm_spec.specs.Step.{Step}
use Rattle.rmm_spec.specs.Cell.{Cell, put}
use Rattle.rmm_spec.specs.Flat.{flat_state}
use Rattle.rmm_spec.specs.Shape.{Side, CpuPlace, IsWellShaped}

pub record HeldCell : Type 0 where
  pub granule : ℕ
  pub cell : Cell

-- what one CPU has before it: the cells that it holds in the order in which it took them, the side table, and its own place
pub record Hold : Type 0 where
  pub cells : List HeldCell
  pub side : Side
  pub place : CpuPlace

abbrev pub granules_held : List HeldCell → List ℕ
granules_held held = map (λ (h : HeldCell). h.granule) held

-- the whole has the cells that are held
abbrev pub Agrees : (ℕ → Cell) → List HeldCell → Type 0
Agrees cells held = AllByRecursion (λ (h : HeldCell). cells h.granule ≡ h.cell) held

-- the whole with each of these cells put in
abbrev pub put_all : (ℕ → Cell) → List HeldCell → ℕ → Cell
put_all cells held = fold (λ whole (h : HeldCell). put whole h.granule h.cell) cells held

-- Of every well-shaped whole that agrees with what is held before, what is held after makes the machine's next state, with
-- this reply, and a well-shaped whole again. The same granules are held before and after.
pub record LocalStep (config : Config) (cpu : ℕ) (command : Command) (given : Reply) (old new : Hold) : Type 0 where
  pub same : granules_held new.cells ≡ granules_held old.cells
  pub right : (cells : ℕ → Cell) (places : ℕ → CpuPlace) → IsWellShaped config old.side places cells → Agrees cells old.cells
      → places cpu ≡ old.place
      → Step (flat_state config cells) cpu command given (flat_state config (put_all cells new.cells))
      × IsWellShaped config new.side (put places cpu new.place) (put_all cells new.cells)
