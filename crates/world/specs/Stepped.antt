-- The local step that a commit makes of one CPU's cells.
use Rattle.std.specs.Prelude.{◌≡◌, ℕ}
use Rattle.rmm_spec.specs.HistoryText.{Config}
use Rattle.rmm_spec.specs.declared.command.Command.{Command}
use Rattle.rmm_spec.specs.declared.reply.Reply.{Reply}
use Rattle.rmm_spec.specs.Cell.{Cell, put}
use Rattle.rmm_spec.specs.Shape.{Side}
use Rattle.rmm_spec.specs.Local.{Hold, put_all, LocalStep}
use Rattle.command_core.specs.Changed.{hold_of, given_of, hold_changed}
use Rattle.command_core.specs.Decided.{answer_on}
use Rattle.command_core.specs.Foreseen.{change_of}
use Rattle.world.specs.Lent.{cells_at}
use Rattle.world.specs.Cpus.{Views}

-- what the hold comes to, and the reply, are those of the answer
pub record IsAnswered (config : Config) (cpu : ℕ) (command : Command) (given : Reply) (old new : Hold) : Type 0 where
  pub is_given : given ≡ given_of (answer_on config cpu command old)
  pub is_changed : new ≡ hold_changed old (change_of (answer_on config cpu command old))

-- a CPU makes a local step on the cells that it has taken, with that reply, and it is the answer's
pub record MakesStep (config : Config) (cpu : ℕ) (command : Command) (given : Reply)
    (cells new_cells : ℕ → Cell) (side new_side : Side) (views new_views : Views) : Type 0 where
  pub held : Hold
  pub step : LocalStep config cpu command given (hold_of (cells_at cells (views.taken cpu)) side (views.place cpu)) held
  pub answered : IsAnswered config cpu command given (hold_of (cells_at cells (views.taken cpu)) side (views.place cpu)) held
  pub has_cells : new_cells ≡ put_all cells held.cells
  pub has_side : new_side ≡ held.side
  pub has_views : new_views ≡ record views { place = put views.place cpu held.place }
