-- Calls that lend a granule to the realm world or take it back, and calls that have nothing to do with the granule.
use Rattle.std.specs.Prelude.{◌≡◌, ℕ, Bool, true, false, not, ◌&&◌, ◌||◌, List, Option, Some, None}
use Rattle.rmm_spec.specs.declared.call.Call.{Call}
use Rattle.rmm_spec.specs.declared.call.Call.TheVariants.{GranuleDelegate, GranuleUndelegate, DataDestroy, RealmDestroy, RecDestroy, RttRemove}
use Rattle.rmm_spec.specs.declared.command.Command.{Command}
use Rattle.rmm_spec.specs.declared.event.Event.{Event}
use Rattle.rmm_spec.specs.declared.line.Line.{Line}
use Rattle.rmm_spec.specs.declared.reply.Reply.{Reply}
use Rattle.rmm_spec.specs.declared.tag.Tag.{Tag}
use Rattle.rmm_spec.specs.declared.tag.Tag.TheVariants.{RecAux, Data, Rtt}
use Rattle.rmm_spec.specs.Call.{call_of}
use Rattle.rmm_spec.specs.Locks.{is_named}
use Rattle.rmm_spec.specs.Step.Terms.{named}
use Rattle.rmm_spec.specs.Linearization.{IsCalled, IsReplyOf, cpu_named, number_named}
use Rattle.rmm_spec.specs.Ownership.{is_accepted}

-- the granule that a call lends to the realm world or takes back, where it does
unfoldable pub lent : Call → Option ℕ
lent (GranuleDelegate granule) = Some granule
lent (GranuleUndelegate granule) = Some granule
lent _ = None

-- whether a granule with the tag is a part of a realm or a REC, which may be given back without being named
abbrev pub is_part : Tag → Bool
is_part RecAux = true
is_part Data = true
is_part Rtt = true
is_part _ = false

-- whether a call may give back granules that it doesn't name
unfoldable pub frees_unnamed : Call → Bool
frees_unnamed (DataDestroy rd ipa) = true
frees_unnamed (RealmDestroy rd) = true
frees_unnamed (RecDestroy rec) = true
frees_unnamed (RttRemove removal rd ipa level) = true
frees_unnamed _ = false

-- whether the call neither names the granule nor gives back granules that it doesn't name
abbrev pub is_apart_from : Call → ℕ → Bool
is_apart_from call granule = not (is_named (named call) granule) && not (frees_unnamed call)

-- the line's call lends the granule or takes it back
abbrev pub Lends : List Event → Line → ℕ → Type 0
Lends events line granule =
    (called : ℕ) (command : Command) → IsCalled events called (cpu_named line) (number_named line) command → lent (call_of command) ≡ Some granule

-- the line's call is apart from the granule
abbrev pub IsApart : List Event → Line → ℕ → Type 0
IsApart events line granule =
    (called : ℕ) (command : Command) → IsCalled events called (cpu_named line) (number_named line) command
    → is_apart_from (call_of command) granule ≡ true

-- the line's call doesn't name the granule
abbrev pub NamesOthers : List Event → Line → ℕ → Type 0
NamesOthers events line granule =
    (called : ℕ) (command : Command) → IsCalled events called (cpu_named line) (number_named line) command
    → is_named (named (call_of command)) granule ≡ false

-- the line's call is carried out
abbrev pub IsCarriedOut : List Event → Line → Type 0
IsCarriedOut events line = (given : Reply) → IsReplyOf events line given → is_accepted given ≡ true

-- whether a call lends a granule to the realm world
unfoldable pub is_delegation : Call → Bool
is_delegation (GranuleDelegate granule) = true
is_delegation _ = false

-- whether a lending of the granule that is carried out behind a call may come before it: the call doesn't name the granule, and gives back
-- none that it doesn't name, or none that was the host's
abbrev pub lets_lend : Call → Call → ℕ → Bool
lets_lend call lending granule = not (is_named (named call) granule) && (is_delegation lending || not (frees_unnamed call))

-- the same of the calls of two lines
abbrev pub LetsLend : List Event → Line → Line → ℕ → Type 0
LetsLend events line lending granule = (called called_too : ℕ) (command also : Command)
    → IsCalled events called (cpu_named line) (number_named line) command
    → IsCalled events called_too (cpu_named lending) (number_named lending) also
    → lets_lend (call_of command) (call_of also) granule ≡ true
