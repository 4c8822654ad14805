-- Calls that lend granules or work on a realm's tables, with the realm and the granules that each works on. This project's own.
use Rattle.std.specs.Prelude.{◌≡◌, ℕ, ◌==◌, ◌||◌, Bool, true, false, List, Option, Some, None, is_some, slice_index_or}
use Rattle.rmm_spec.specs.declared.call.Call.{Call}
use Rattle.rmm_spec.specs.declared.call.Call.TheVariants as call
use Rattle.rmm_spec.specs.declared.command.Command.{Command}
use Rattle.rmm_spec.specs.declared.event.Event.{Event}
use Rattle.rmm_spec.specs.declared.line.Line.{Line}
use Rattle.rmm_spec.specs.declared.reply.Reply.{Reply}
use Rattle.rmm_spec.specs.declared.reply.Reply.TheVariants as reply
use Rattle.rmm_spec.specs.Call.{call_of}
use Rattle.rmm_spec.specs.Locks.{is_named}
use Rattle.rmm_spec.specs.Step.Terms.{named}
use Rattle.rmm_spec.specs.Linearization.{IsCalled, IsReplyOf, cpu_named, number_named}
use Rattle.verdict_laws.specs.Apart.{lent}

-- the realm whose tables a call reads or changes, where it looks at nothing else but tags and that realm's record
unfoldable pub table_realm : Call → Option ℕ
table_realm (call.DataCreate rd granule ipa source flags digest) = Some rd
table_realm (call.DataCreateUnknown rd granule ipa) = Some rd
table_realm (call.DataDestroy rd ipa) = Some rd
table_realm (call.RealmActivate rd) = Some rd
table_realm (call.RttCreate rd rtt ipa level) = Some rd
table_realm (call.RttRemove removal rd ipa level) = Some rd
table_realm (call.RttMapUnprotected rd ipa page) = Some rd
table_realm (call.RttReadEntry rd ipa level) = Some rd
table_realm (call.RttUnmapUnprotected rd ipa) = Some rd
table_realm (call.RttInitRipas rd base top) = Some rd
table_realm _ = None

-- whether the call works on a realm's tables, or lends a granule or takes it back
abbrev pub is_local : Call → Bool
is_local c = is_some (table_realm c) || is_some (lent c)

-- the first word of a reply is the granule
abbrev pub tells_granule : Reply → ℕ → Bool
tells_granule (reply.Ok words) granule = slice_index_or words.items 0 0 == granule
tells_granule _ granule = false

-- whether the call gives the granule back without naming it, as its reply tells
unfoldable pub is_freed : Call → Reply → ℕ → Bool
is_freed (call.DataDestroy rd ipa) given granule = tells_granule given granule
is_freed (call.RttRemove removal rd ipa level) given granule = tells_granule given granule
is_freed _ given granule = false

-- whether it looks at the granule's tag, or changes that
abbrev pub works_on : Call → Reply → ℕ → Bool
works_on c given granule = is_named (named c) granule || is_freed c given granule

-- Two such calls, of different realms if each is of one, with no granule that both work on.
pub record AreSeparate (one : Call) (given : Reply) (two : Call) (answered : Reply) : Type 0 where
  pub first : is_local one ≡ true
  pub second : is_local two ≡ true
  pub realms : (rd other : ℕ) → table_realm one ≡ Some rd → table_realm two ≡ Some other → ¬ (rd ≡ other)
  pub granules : (granule : ℕ) → works_on one given granule ≡ true → works_on two answered granule ≡ false

-- the same of the calls of two lines
abbrev pub AreSeparateLines : List Event → Line → Line → Type 0
AreSeparateLines events line other = (called called_too : ℕ) (command also : Command) (given answered : Reply)
    → IsCalled events called (cpu_named line) (number_named line) command → IsReplyOf events line given
    → IsCalled events called_too (cpu_named other) (number_named other) also → IsReplyOf events other answered
    → AreSeparate (call_of command) given (call_of also) answered
