-- What possibilities a register comes to at a return.
use Rattle.std.specs.Prelude.{⊤, ◌≡◌, ℕ, true, false, List, Option, Some, None, slice_get}
use Rattle.rmm_spec.specs.declared.event.Event.{Event}
use Rattle.rmm_spec.specs.declared.measurement.Measurement.{Measurement}
use Rattle.rmm_spec.specs.declared.reply.Reply.{Reply}
use Rattle.rmm_spec.specs.Linearization.{IsReturned}
use Rattle.verdict_laws.specs.Registers.{FitsValue, IsAmong, Possibility, RegisterCall, Begins, Extends, Reads, is_placed, with_placed}
use Rattle.registers.specs.declared.done.Done.{Done}
use Rattle.registers.specs.declared.done.Done.TheVariants as done
use Rattle.registers.specs.declared.open_call.OpenCall.{OpenCall}

-- what a call does, as the laws say it
abbrev pub call_done : Done → RegisterCall
call_done (done.Begins algo) = Begins algo
call_done (done.Extends size values) = Extends size values
call_done done.Reads = Reads

-- a call that doesn't return may read any value
abbrev pub FitsUnfinished : RegisterCall → Option Measurement → Type 0
FitsUnfinished Reads value = (m : Measurement) × (value ≡ Some m)
FitsUnfinished _ value = ⊤

-- the call may come after what leads to the value, by the reply that it returns with
abbrev pub FitsOpen : List Event → RegisterCall → Option ℕ → Option Measurement → Type 0
FitsOpen events call None value = FitsUnfinished call value
FitsOpen events call (Some returned) value =
    (cpu number : ℕ) × (given : Reply) × IsReturned events returned cpu number given × FitsValue (Some call) value given

-- one of the open calls
abbrev pub IsOneOf : OpenCall → List OpenCall → Type 0
IsOneOf one opens = (i : ℕ) × (slice_get opens i ≡ Some one)

-- A call of the CPU returns at the place. The possibilities with it are next; the others are begun, and so is what they come to by open calls;
-- and what is begun comes to the next ones by the call.
pub record Leads (events : List Event) (opens : List OpenCall) (place cpu : ℕ) (call : RegisterCall) (possibilities begun next : List Possibility)
    : Type 0 where
  pub stays : (possibility : Possibility) → IsAmong possibility possibilities → is_placed possibility cpu ≡ true
      → IsAmong (with_placed possibility cpu false None) next
  pub begins : (possibility : Possibility) → IsAmong possibility possibilities → is_placed possibility cpu ≡ false → IsAmong possibility begun
  pub grows : (possibility : Possibility) (one : OpenCall) → IsAmong possibility begun → IsOneOf one opens
      → is_placed possibility one.cpu ≡ false → FitsOpen events (call_done one.done) one.returned possibility.value
      → IsAmong (with_placed possibility one.cpu true (Some (call_done one.done))) begun
  pub ends : (possibility : Possibility) → IsAmong possibility begun → FitsOpen events call (Some place) possibility.value
      → IsAmong (with_placed possibility cpu false (Some call)) next
