-- What the machine may reply to a command, and its next state.
pub mod Terms
pub mod Front
pub mod Granule
pub mod Realm
pub mod Rec
pub mod Table
pub mod Data
pub mod Unprotected
pub mod Ripas
pub mod RealmCall
use Rattle.std.specs.Prelude.{◌≡◌, ⊤, ℕ, Bool, not, ◌&&◌, [], ◌∷◌, Result, Ok, Err, if◌then◌else◌, is_none}
use Rattle.rmm_spec.specs.declared.accepted.Accepted.{Accepted}
use Rattle.rmm_spec.specs.declared.accepted.Accepted.TheVariants.{Done, Reaches}
use Rattle.rmm_spec.specs.declared.call.Call.{Call}
use Rattle.rmm_spec.specs.declared.call.Call.TheVariants as call
use Rattle.rmm_spec.specs.declared.command.Command.{Command}
use Rattle.rmm_spec.specs.declared.condition.Condition.{Condition}
use Rattle.rmm_spec.specs.declared.condition.Condition.TheVariants.{OwnInside, OwnOutside, OwnPending}
use Rattle.rmm_spec.specs.declared.refusal.Refusal.{Refusal}
use Rattle.rmm_spec.specs.declared.refusal.Refusal.TheVariants.{Misplaced}
use Rattle.rmm_spec.specs.declared.reply.Reply.{Reply}
use Rattle.rmm_spec.specs.declared.reply.Reply.TheVariants as reply
use Rattle.rmm_spec.specs.Call.{Class, ByHost, ByRealm, ByExit, call_of, class_of}
use Rattle.rmm_spec.specs.Change.{changed}
use Rattle.rmm_spec.specs.State.{State}
use Rattle.rmm_spec.specs.Lookup.{is_inside, rec_inside, rec_at}
use Rattle.rmm_spec.specs.Rows.{ok, reply_of}
use Rattle.rmm_spec.specs.Step.Granule.{granule_delegate, granule_undelegate}
use Rattle.rmm_spec.specs.Step.Realm.{realm_create, realm_activate, realm_destroy}
use Rattle.rmm_spec.specs.Step.Rec.{rec_create, rec_destroy, rec_enter}
use Rattle.rmm_spec.specs.Step.Table.{rtt_create, rtt_remove, rtt_read_entry}
use Rattle.rmm_spec.specs.Step.Data.{data_create, data_create_unknown, data_destroy}
use Rattle.rmm_spec.specs.Step.Unprotected.{rtt_map_unprotected, rtt_unmap_unprotected}
use Rattle.rmm_spec.specs.Step.Ripas.{rtt_init_ripas, rtt_set_ripas, IsReached, reached_change}
use Rattle.rmm_spec.specs.Step.RealmCall.{rec_exit, answer_to_realm, realm_calls}

-- A host's commands are given outside of RECs. A realm's calls and a REC's exit are given inside of one, and a REC that
-- waits to leave gives no calls.
abbrev pub is_placed : State → ℕ → Class → Bool
is_placed s cpu ByHost = not (is_inside s cpu)
is_placed s cpu ByRealm = is_inside s cpu && is_none (rec_at s (rec_inside s cpu)).pending
is_placed s cpu ByExit = is_inside s cpu

-- the condition that fails where one isn't placed, by whether its CPU is inside of a REC
abbrev pub misplacement : Bool → Class → Condition
misplacement inside ByHost = OwnOutside
misplacement inside ByRealm = if inside then OwnPending else OwnInside
misplacement inside ByExit = OwnInside

-- what a host's command leads to: the refusal of the first row that doesn't hold, or what is done
unfoldable pub answer_to_host : State → ℕ → Call → Result Accepted Refusal
answer_to_host s cpu (call.GranuleDelegate granule) = granule_delegate s granule
answer_to_host s cpu (call.GranuleUndelegate granule) = granule_undelegate s granule
answer_to_host s cpu (call.DataCreate rd granule ipa source flags digest) = data_create s rd granule ipa source flags digest
answer_to_host s cpu (call.DataCreateUnknown rd granule ipa) = data_create_unknown s rd granule ipa
answer_to_host s cpu (call.DataDestroy rd ipa) = data_destroy s rd ipa
answer_to_host s cpu (call.RealmActivate rd) = realm_activate s rd
answer_to_host s cpu (call.RealmCreate rd root width level vmid algo) = realm_create s rd root width level vmid algo
answer_to_host s cpu (call.RealmDestroy rd) = realm_destroy s rd
answer_to_host s cpu (call.RecCreate rd rec mpidr flags aux0 aux1) = rec_create s rd rec mpidr flags aux0 aux1
answer_to_host s cpu (call.RecDestroy rec) = rec_destroy s rec
answer_to_host s cpu (call.RecEnter rec) = rec_enter s cpu rec
answer_to_host s cpu (call.RttCreate rd rtt ipa level) = rtt_create s rd rtt ipa level
answer_to_host s cpu (call.RttRemove removal rd ipa level) = rtt_remove s removal rd ipa level
answer_to_host s cpu (call.RttMapUnprotected rd ipa page) = rtt_map_unprotected s rd ipa page
answer_to_host s cpu (call.RttReadEntry rd ipa level) = rtt_read_entry s rd ipa level
answer_to_host s cpu (call.RttUnmapUnprotected rd ipa) = rtt_unmap_unprotected s rd ipa
answer_to_host s cpu (call.RttInitRipas rd base top) = rtt_init_ripas s rd base top
answer_to_host s cpu (call.RttSetRipas rd rec base top) = rtt_set_ripas s rd rec base top
answer_to_host s cpu _ = Err (Misplaced OwnInside)

-- by who gives it
abbrev pub answer_by : Class → State → ℕ → Call → Result Accepted Refusal
answer_by ByHost s cpu given = answer_to_host s cpu given
answer_by ByRealm s cpu given = answer_to_realm s (rec_inside s cpu) given
answer_by ByExit s cpu given = rec_exit s (rec_inside s cpu)

-- what a command leads to where it is placed
unfoldable pub answer_of : State → ℕ → Call → Result Accepted Refusal
unfolding class_of answer_to_host answer_to_realm
answer_of s cpu given = answer_by (class_of given) s cpu given

-- what a proof unfolds to open each command's rows
unfoldable pub commands : ⊤
unfolding granule_delegate granule_undelegate realm_create realm_activate realm_destroy rec_create rec_destroy rec_enter rtt_create rtt_remove
    rtt_read_entry data_create data_create_unknown data_destroy rtt_map_unprotected rtt_unmap_unprotected rtt_init_ripas rtt_set_ripas realm_calls
commands = tt

-- what the specification answers to a command of the CPU: a refusal, or what is done
unfoldable pub outcome : State → ℕ → Call → Result Accepted Refusal
outcome s cpu given =
    if is_placed s cpu (class_of given) then answer_of s cpu given else Err (Misplaced (misplacement (is_inside s cpu) (class_of given)))

-- a refusal is the reply, and nothing changes; else the reply and the next state are those of what is done
abbrev pub CarriesOut : Result Accepted Refusal → State → Reply → State → Type 0
CarriesOut (Err refused) old given new = (given ≡ reply_of refused) × (new ≡ old)
CarriesOut (Ok (Done words change)) old given new = (given ≡ reply.Ok words) × (new ≡ changed old change)
CarriesOut (Ok (Reaches stretch)) old given new =
    (top : ℕ) × (IsReached old stretch top × (given ≡ ok (top ∷ [])) × (new ≡ changed old (reached_change stretch top)))

-- from old, the machine may give this reply to the command of this CPU and go on to new
abbrev pub Step : State → ℕ → Command → Reply → State → Type 0
Step old cpu command given new = CarriesOut (outcome old cpu (call_of command)) old given new
