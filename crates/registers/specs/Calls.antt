-- What is read of a call.
use Rattle.std.specs.Prelude.{⊤, ◌≡◌, ℕ, Bool, true, false, Option, None}
use Rattle.rmm_spec.specs.declared.call.Call.{Call}
use Rattle.rmm_spec.specs.declared.call.Call.TheVariants as call
use Rattle.rmm_spec.specs.declared.function_id.FunctionId.{FunctionId}
use Rattle.rmm_spec.specs.declared.function_id.FunctionId.TheVariants as function
use Rattle.rmm_spec.specs.declared.reply.Reply.{Reply}
use Rattle.rmm_spec.specs.declared.reply.Reply.TheVariants as reply
use Rattle.verdict_laws.specs.Registers.{Register, done_call, entered_after}

-- calls of the function do something to a register, or enter a REC
abbrev pub is_followed : FunctionId → Bool
is_followed function.RealmCreate = true
is_followed function.RecEnter = true
is_followed function.MeasurementRead = true
is_followed function.MeasurementExtend = true
is_followed _ = false

-- the call isn't refused
abbrev pub IsCarriedOut : Reply → Type 0
IsCarriedOut (reply.Ok words) = ⊤
IsCarriedOut _ = ⊥

-- no register is changed or read, and no REC is entered
pub record DoesNothing (made : Call) (given : Reply) : Type 0 where
  pub done : (register : Register) (mine : ℕ → Bool) (entered : Option ℕ) → done_call register mine entered made given ≡ None
  pub entered : (old : Option ℕ) → entered_after old made given ≡ old

-- no REC is asked for
abbrev pub AsksForNone : Call → Type 0
AsksForNone (call.RecCreate rd rec mpidr flags aux0 aux1) = ⊥
AsksForNone _ = ⊤
