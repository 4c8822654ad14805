-- What holds while the possibilities at a return are collected.
use Rattle.std.specs.Prelude.{◌≡◌, ℕ, List, Some, true, false, slice_get}
use Rattle.rmm_spec.specs.declared.event.Event.{Event}
use Rattle.verdict_laws.specs.Registers.{IsAmong, Possibility, RegisterCall, is_placed, with_placed}
use Rattle.registers.specs.declared.open_call.OpenCall.{OpenCall}
use Rattle.registers.specs.Leads.{FitsOpen, IsOneOf, call_done}

-- each of the old possibilities is where it was
abbrev pub Keeps : List Possibility → List Possibility → Type 0
Keeps old new = (i : ℕ) (possibility : Possibility) → slice_get old i ≡ Some possibility → slice_get new i ≡ Some possibility

-- where the open call isn't in the possibility and may come after it, what they come to is among those begun
abbrev pub GrowsBy : List Event → OpenCall → List Possibility → Possibility → Type 0
GrowsBy events one begun possibility =
    is_placed possibility one.cpu ≡ false → FitsOpen events (call_done one.done) one.returned possibility.value
    → IsAmong (with_placed possibility one.cpu true (Some (call_done one.done))) begun

-- so it is for each open call
abbrev pub GrowsByEach : List Event → List OpenCall → List Possibility → Possibility → Type 0
GrowsByEach events opens begun possibility = (one : OpenCall) → IsOneOf one opens → GrowsBy events one begun possibility

-- so it is for each open call, and for each of those begun
abbrev pub AllGrow : List Event → List OpenCall → List Possibility → Type 0
AllGrow events opens begun = (possibility : Possibility) → IsAmong possibility begun → GrowsByEach events opens begun possibility

-- where the call that returns at the place may come after the possibility, what they come to is among the next ones
abbrev pub EndsIn : List Event → ℕ → ℕ → RegisterCall → List Possibility → Possibility → Type 0
EndsIn events place cpu call next possibility =
    FitsOpen events call (Some place) possibility.value → IsAmong (with_placed possibility cpu false (Some call)) next
