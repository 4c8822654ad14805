-- Calls that make a realm or a REC, beside others of the kind, and calls that work on other realms' tables or lend granules. This project's own.
use Rattle.std.specs.Prelude.{◌≡◌, ℕ, ◌||◌, Bool, true, false, List, Option, Some, None}
use Rattle.rmm_spec.specs.declared.call.Call.{Call}
use Rattle.rmm_spec.specs.declared.call.Call.TheVariants as call
use Rattle.rmm_spec.specs.declared.command.Command.{Command}
use Rattle.rmm_spec.specs.declared.event.Event.{Event}
use Rattle.rmm_spec.specs.declared.line.Line.{Line}
use Rattle.rmm_spec.specs.declared.reply.Reply.{Reply}
use Rattle.rmm_spec.specs.Call.{call_of}
use Rattle.rmm_spec.specs.Linearization.{IsCalled, IsReplyOf, cpu_named, number_named}
use Rattle.verdict_laws.specs.Separate.{is_local, table_realm, works_on}

-- the realm that a call makes, or for which it makes a REC
unfoldable pub made_realm : Call → Option ℕ
made_realm (call.RealmCreate rd root width level vmid algo) = Some rd
made_realm (call.RecCreate rd rec mpidr flags aux0 aux1) = Some rd
made_realm _ = None

-- the VMID that a call takes for a realm, where it does
unfoldable pub taken_vmid : Call → Option ℕ
taken_vmid (call.RealmCreate rd root width level vmid algo) = Some vmid
taken_vmid _ = None

-- whether it makes a realm or a REC
unfoldable pub is_making : Call → Bool
is_making (call.RealmCreate rd root width level vmid algo) = true
is_making (call.RecCreate rd rec mpidr flags aux0 aux1) = true
is_making _ = false

-- that realm, or the realm on whose tables the call works
abbrev pub own_realm : Call → Option ℕ
own_realm c = either_realm (made_realm c) (table_realm c)
  where
    either_realm : Option ℕ → Option ℕ → Option ℕ
    either_realm None own = own
    either_realm (Some rd) own = Some rd

-- Two calls that make something or are local, with no realm of both, no VMID that both take, and no granule that both work on.
pub record AreMadeApart (one : Call) (given : Reply) (two : Call) (answered : Reply) : Type 0 where
  pub first : (is_making one || is_local one) ≡ true
  pub second : (is_making two || is_local two) ≡ true
  pub realms : (rd other : ℕ) → own_realm one ≡ Some rd → own_realm two ≡ Some other → ¬ (rd ≡ other)
  pub vmids : (vmid other : ℕ) → taken_vmid one ≡ Some vmid → taken_vmid two ≡ Some other → ¬ (vmid ≡ other)
  pub granules : (granule : ℕ) → works_on one given granule ≡ true → works_on two answered granule ≡ false

-- the same of the calls of two lines
abbrev pub AreMadeApartLines : List Event → Line → Line → Type 0
AreMadeApartLines events line other = (called called_too : ℕ) (command also : Command) (given answered : Reply)
    → IsCalled events called (cpu_named line) (number_named line) command → IsReplyOf events line given
    → IsCalled events called_too (cpu_named other) (number_named other) also → IsReplyOf events other answered
    → AreMadeApart (call_of command) given (call_of also) answered
