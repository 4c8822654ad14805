-- Calls that change a REC alone, beside calls that work on tables or lend granules. This project's own.
use Rattle.std.specs.Prelude.{◌≡◌, ℕ, Bool, true, false, List, Option, Some, None}
use Rattle.rmm_spec.specs.declared.call.Call.{Call}
use Rattle.rmm_spec.specs.declared.call.Call.TheVariants as call
use Rattle.rmm_spec.specs.declared.command.Command.{Command}
use Rattle.rmm_spec.specs.declared.event.Event.{Event}
use Rattle.rmm_spec.specs.declared.line.Line.{Line}
use Rattle.rmm_spec.specs.declared.reply.Reply.{Reply}
use Rattle.rmm_spec.specs.Call.{call_of}
use Rattle.rmm_spec.specs.Linearization.{IsCalled, IsReplyOf, cpu_named, number_named}
use Rattle.verdict_laws.specs.Separate.{works_on}

-- whether a call enters a REC, or leaves the one in which its CPU is, or asks something of the host there
unfoldable pub is_entry : Call → Bool
is_entry (call.RecEnter rec) = true
is_entry call.Exit = true
is_entry (call.IpaStateSet base top ripas) = true
is_entry (call.HostCall imm) = true
is_entry call.CpuOff = true
is_entry _ = false

-- the granule of the REC that it enters, where it does
unfoldable pub entered : Call → Option ℕ
entered (call.RecEnter rec) = Some rec
entered _ = None

-- whether a call works on a realm's tables, or lends a granule or takes it back, and changes the state of no realm
unfoldable pub is_work : Call → Bool
is_work (call.GranuleDelegate granule) = true
is_work (call.GranuleUndelegate granule) = true
is_work (call.DataCreate rd granule ipa source flags digest) = true
is_work (call.DataCreateUnknown rd granule ipa) = true
is_work (call.DataDestroy rd ipa) = true
is_work (call.RttCreate rd rtt ipa level) = true
is_work (call.RttRemove removal rd ipa level) = true
is_work (call.RttMapUnprotected rd ipa page) = true
is_work (call.RttReadEntry rd ipa level) = true
is_work (call.RttUnmapUnprotected rd ipa) = true
is_work (call.RttInitRipas rd base top) = true
is_work _ = false

-- The one call enters a REC, leaves one or asks something there, and the other works, but not on the REC's granule.
pub record AreBeside (entry work : Call) (answered : Reply) : Type 0 where
  pub enters : is_entry entry ≡ true
  pub works : is_work work ≡ true
  pub apart : (rec : ℕ) → entered entry ≡ Some rec → works_on work answered rec ≡ false

-- the same of the calls of two lines
abbrev pub AreBesideLines : List Event → Line → Line → Type 0
AreBesideLines events line other = (called called_too : ℕ) (command also : Command) (answered : Reply)
    → IsCalled events called (cpu_named line) (number_named line) command
    → IsCalled events called_too (cpu_named other) (number_named other) also → IsReplyOf events other answered
    → AreBeside (call_of command) (call_of also) answered
