-- The calls that are open while another returns, and do something to a register.
use Rattle.std.specs.Prelude.{◌≡◌, ℕ, ◌<◌, List, Option, Some, None}
use Rattle.rmm_spec.specs.declared.event.Event.{Event}
use Rattle.rmm_spec.specs.declared.line.Line.{Line}
use Rattle.rmm_spec.specs.declared.measurement.Measurement.{Measurement}
use Rattle.rmm_spec.specs.declared.reply.Reply.{Reply}
use Rattle.rmm_spec.specs.HistoryText.{History}
use Rattle.rmm_spec.specs.Linearization.{IsOfItsKind, IsReturned, cpu_named, number_named}
use Rattle.verdict_laws.specs.Registers.{FitsValue, IsDone, IsOpenCall, RegisterCall}
use Rattle.registers.specs.declared.open_call.OpenCall.{OpenCall}
use Rattle.registers.specs.Calls.{IsCarriedOut}
use Rattle.registers.specs.Leads.{FitsOpen, IsOneOf, call_done}
use Rattle.registers.specs.Owners.{mine_at, register_at}

-- the line is of an open call, does this to the register of the slot, and may come after what leads to the value
pub record IsOpenLine (history : History) (owners : List (Option ℕ)) (place slot : ℕ) (line : Line) (also : RegisterCall)
    (value : Option Measurement) : Type 0 where
  pub kind : IsOfItsKind history.events line
  pub is_open : IsOpenCall history.events place (cpu_named line) (number_named line)
  pub given : Reply
  pub is_done : IsDone history.events (register_at slot) (mine_at owners slot) line given (Some also)
  pub fits : FitsValue (Some also) value given

-- the open call is the line's
pub record IsLineOf (events : List Event) (line : Line) (also : RegisterCall) (value : Option Measurement) (one : OpenCall) : Type 0 where
  pub cpu : one.cpu ≡ cpu_named line
  pub done : call_done one.done ≡ also
  pub fits : FitsOpen events also one.returned value

-- the open call is that of each such line of the CPU
abbrev pub HasOpen : History → List (Option ℕ) → ℕ → ℕ → ℕ → Option OpenCall → Type 0
HasOpen history owners place slot cpu open_call = (line : Line) (also : RegisterCall) (value : Option Measurement) → cpu_named line ≡ cpu
    → IsOpenLine history owners place slot line also value → (one : OpenCall) × (open_call ≡ Some one) × IsLineOf history.events line also value one

-- one of them is that of each such line of the other CPUs below the bound
abbrev pub HaveBelow : History → List (Option ℕ) → ℕ → ℕ → ℕ → ℕ → List OpenCall → Type 0
HaveBelow history owners place cpu slot bound opens = (line : Line) (also : RegisterCall) (value : Option Measurement)
    → ¬ (cpu_named line ≡ cpu) → cpu_named line < bound → IsOpenLine history owners place slot line also value
    → (one : OpenCall) × IsOneOf one opens × IsLineOf history.events line also value one

abbrev pub HaveOpen : History → List (Option ℕ) → ℕ → ℕ → ℕ → List OpenCall → Type 0
HaveOpen history owners place cpu slot opens = HaveBelow history owners place cpu slot 8 opens

-- the recorded reply, or any that isn't refused where the call doesn't return
abbrev pub IsTold : List Event → Option ℕ → Reply → Type 0
IsTold events None given = IsCarriedOut given
IsTold events (Some place) given = (cpu number : ℕ) × IsReturned events place cpu number given

abbrev pub IsReturnPlace : List Event → Option ℕ → Type 0
IsReturnPlace events None = Unit {0}
IsReturnPlace events (Some place) = (cpu number : ℕ) × (given : Reply) × IsReturned events place cpu number given
