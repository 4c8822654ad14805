-- Calls that end a REC or a realm, beside calls that make others, work on tables or lend granules, and beside each other. This project's own.
use Rattle.std.specs.Prelude.{◌≡◌, ℕ, ◌||◌, Bool, true, false, List, Some}
use Rattle.rmm_spec.specs.declared.call.Call.{Call}
use Rattle.rmm_spec.specs.declared.call.Call.TheVariants as call
use Rattle.rmm_spec.specs.declared.command.Command.{Command}
use Rattle.rmm_spec.specs.declared.event.Event.{Event}
use Rattle.rmm_spec.specs.declared.line.Line.{Line}
use Rattle.rmm_spec.specs.Call.{call_of}
use Rattle.rmm_spec.specs.State.{State}
use Rattle.rmm_spec.specs.Locks.{is_named}
use Rattle.rmm_spec.specs.Step.Terms.{named}
use Rattle.rmm_spec.specs.Linearization.{IsCalled, cpu_named, number_named}
use Rattle.verdict_laws.specs.Apart.{is_part}
use Rattle.verdict_laws.specs.Forward.{IsOpen}
use Rattle.verdict_laws.specs.Making.{is_making, taken_vmid}
use Rattle.verdict_laws.specs.Separate.{is_local}

-- whether a call ends a REC or a realm
unfoldable pub is_ending : Call → Bool
is_ending (call.RecDestroy rec) = true
is_ending (call.RealmDestroy rd) = true
is_ending _ = false

-- The one call makes something or is local, and the other ends a REC or a realm that the first doesn't name.
pub record EndsApart (work ending : Call) : Type 0 where
  pub works : (is_making work || is_local work) ≡ true
  pub ends : is_ending ending ≡ true
  pub apart : (granule : ℕ) → is_named (named work) granule ≡ true → is_named (named ending) granule ≡ false

-- the same of the calls of two lines
abbrev pub EndsApartLines : List Event → Line → Line → Type 0
EndsApartLines events line other = (called called_too : ℕ) (command also : Command)
    → IsCalled events called (cpu_named line) (number_named line) command
    → IsCalled events called_too (cpu_named other) (number_named other) also
    → EndsApart (call_of command) (call_of also)

-- whether a call gives back a VMID
unfoldable pub frees_vmid : Call → Bool
frees_vmid (call.RealmDestroy rd) = true
frees_vmid _ = false

-- The one call ends a REC or a realm that the other doesn't name. This makes something or is local, and takes no VMID where the first gives one
-- back; or it ends something too, and no realm where the first ends a REC.
pub record EndsLater (ending work : Call) : Type 0 where
  pub ends : is_ending ending ≡ true
  pub works : (is_ending work || (is_making work || is_local work)) ≡ true
  pub apart : (granule : ℕ) → is_named (named work) granule ≡ true → is_named (named ending) granule ≡ false
  pub vmids : (vmid : ℕ) → taken_vmid work ≡ Some vmid → frees_vmid ending ≡ false
  pub realms : frees_vmid work ≡ true → frees_vmid ending ≡ true

-- the same of the calls of two lines
abbrev pub EndsLaterLines : List Event → Line → Line → Type 0
EndsLaterLines events line other = (called called_too : ℕ) (command also : Command)
    → IsCalled events called (cpu_named line) (number_named line) command
    → IsCalled events called_too (cpu_named other) (number_named other) also
    → EndsLater (call_of command) (call_of also)

-- no granule that the call names is a part of anything in the state
abbrev pub NamesNoPart : State → Call → Type 0
NamesNoPart s c = (granule : ℕ) → is_named (named c) granule ≡ true → is_part (s.tag granule) ≡ false

-- No granule that the line's call names is a part of anything in the state, nor named by an open call of another CPU.
pub record IsLeftAlone (events : List Event) (place : ℕ) (lines : List Line) (state : State) (line : Line) : Type 0 where
  pub whole : (called : ℕ) (command : Command) → IsCalled events called (cpu_named line) (number_named line) command
      → NamesNoPart state (call_of command)
  pub others : (called called_too : ℕ) (command also : Command) (other : Line) → IsOpen events place lines other
      → ¬ (cpu_named other ≡ cpu_named line) → IsCalled events called (cpu_named line) (number_named line) command
      → IsCalled events called_too (cpu_named other) (number_named other) also
      → (granule : ℕ) → is_named (named (call_of command)) granule ≡ true → is_named (named (call_of also)) granule ≡ false
