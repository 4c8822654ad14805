-- What is answered to a command from what is held, where that settles it: what its rows answer in the state that the held
-- cells tell of, with the side table's word on VMIDs and RECs. Cells that no shape has are answered as misplaced, and so is a
-- change that can't be made of what is held: no whole agrees with either. This project's own.
use Rattle.std.specs.Prelude.{ℕ, if◌then◌else◌, List, [], ◌∷◌, Option, Some, Result, Ok, Err}
use Rattle.rmm_spec.specs.HistoryText.{Config}
use Rattle.rmm_spec.specs.declared.accepted.Accepted.{Accepted}
use Rattle.rmm_spec.specs.declared.accepted.Accepted.TheVariants.{Done, Reaches}
use Rattle.rmm_spec.specs.declared.call.Call.{Call}
use Rattle.rmm_spec.specs.declared.change.Change.{Change}
use Rattle.rmm_spec.specs.declared.command.Command.{Command}
use Rattle.rmm_spec.specs.declared.condition.Condition.TheVariants.{OwnShape}
use Rattle.rmm_spec.specs.declared.refusal.Refusal.{Refusal}
use Rattle.rmm_spec.specs.declared.refusal.Refusal.TheVariants.{Misplaced}
use Rattle.rmm_spec.specs.Call.{call_of}
use Rattle.rmm_spec.specs.Rows.{done}
use Rattle.rmm_spec.specs.Step.Ripas.{reached_change}
use Rattle.rmm_spec.specs.Shape.{Side, CpuPlace, Outside, Inside}
use Rattle.rmm_spec.specs.Local.{HeldCell, Hold}
use Rattle.command_rows.specs.Answers.{outside_answer, inside_answer}
use Rattle.command_core.specs.Changed.{can_make}
use Rattle.world_laws.specs.SeenState.{seen_state}
use Rattle.command_core.specs.Furthest.{furthest}
use Rattle.command_core.specs.Sides.{are_vmids_told, are_recs_told}
use Rattle.command_core.specs.Unshaped.{is_unshaped}

abbrev pub rows_answer : Config → ℕ → Call → List HeldCell → Option Side → CpuPlace → Result Accepted Refusal
rows_answer config cpu call held side Outside =
    outside_answer (are_vmids_told side) (are_recs_told side) (seen_state config held) cpu call
rows_answer config cpu call held side (Inside rec rd) = inside_answer (seen_state config held) rec call

-- why cells that no shape has aren't changed
abbrev pub misshaped : Refusal
misshaped = Misplaced OwnShape

-- the words and their change, where it can be made
abbrev pub made_change : Config → List HeldCell → Side → Accepted → Change → Result Accepted Refusal
made_change config held side accepted change = if can_make config held side change then Ok accepted else Err misshaped

-- A stretch is set as far as its rows allow.
abbrev pub made_answer : Config → List HeldCell → Side → Result Accepted Refusal → Result Accepted Refusal
made_answer config held side (Ok (Done words change)) = made_change config held side (Done words change) change
made_answer config held side (Ok (Reaches stretch)) =
    let top = furthest (seen_state config held) stretch in
    made_change config held side (done (top ∷ []) (reached_change stretch top)) (reached_change stretch top)
made_answer config held side (Err refusal) = Err refusal

unfoldable pub settled_answer : Config → ℕ → Call → List HeldCell → Side → CpuPlace → Result Accepted Refusal
settled_answer config cpu call held side place =
    if is_unshaped config call place held then Err misshaped
    else made_answer config held side (rows_answer config cpu call held (Some side) place)

-- what is answered to the command on that hold
abbrev pub answer_on : Config → ℕ → Command → Hold → Result Accepted Refusal
answer_on config cpu command hold = settled_answer config cpu (call_of command) hold.cells hold.side hold.place
