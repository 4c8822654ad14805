-- What is owed where what is held settles a command that walks: what is answered in the state that the held cells tell of is a
-- local step, with the change that it makes of the held cells. This project's own.
use Rattle.std.specs.Prelude.{◌≡◌, ℕ, true, [], ◌∷◌, Result, Ok, Err}
use Rattle.rmm_spec.specs.HistoryText.{Config}
use Rattle.rmm_spec.specs.declared.accepted.Accepted.{Accepted}
use Rattle.rmm_spec.specs.declared.accepted.Accepted.TheVariants.{Done, Reaches}
use Rattle.rmm_spec.specs.declared.command.Command.{Command}
use Rattle.rmm_spec.specs.declared.refusal.Refusal.{Refusal}
use Rattle.rmm_spec.specs.declared.reply.Reply.TheVariants as reply
use Rattle.rmm_spec.specs.Rows.{ok, reply_of}
use Rattle.rmm_spec.specs.Step.Ripas.{IsReached, reached_change}
use Rattle.rmm_spec.specs.Local.{Hold, LocalStep}
use Rattle.world_laws.specs.SeenState.{seen_state}
use Rattle.world_laws.specs.TableCells.{holds_change, tables_changed}

-- of a stretch, each end that the held table's entries allow may be chosen
abbrev pub IsLocalAnswer : Config → ℕ → Command → Hold → Result Accepted Refusal → Type 0
IsLocalAnswer config cpu command hold (Err refusal) = LocalStep config cpu command (reply_of refusal) hold hold
IsLocalAnswer config cpu command hold (Ok (Done words change)) =
    (holds_change hold.cells change ≡ true) × LocalStep config cpu command (reply.Ok words) hold (tables_changed hold change)
IsLocalAnswer config cpu command hold (Ok (Reaches stretch)) =
    (top : ℕ) → (holds_change hold.cells (reached_change stretch top) ≡ true)
    × (IsReached (seen_state config hold.cells) stretch top
    → LocalStep config cpu command (ok (top ∷ [])) hold (tables_changed hold (reached_change stretch top)))
