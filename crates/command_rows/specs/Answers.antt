-- What a command is answered, where it is given outside of RECs and where inside of one. Two searches through the whole state
-- are told beside it, since who holds a part of the state knows them in another way.
use Rattle.std.specs.Prelude.{ℕ, Bool, if◌then◌else◌, Result, Err, IsTrue, is_none}
use Rattle.rmm_spec.specs.declared.accepted.Accepted.{Accepted}
use Rattle.rmm_spec.specs.declared.call.Call.{Call}
use Rattle.rmm_spec.specs.declared.call.Call.TheVariants.{RealmCreate, RealmDestroy, RecEnter}
use Rattle.rmm_spec.specs.declared.condition.Condition.TheVariants.{OwnInside, OwnOutside, OwnPending}
use Rattle.rmm_spec.specs.declared.refusal.Refusal.{Refusal}
use Rattle.rmm_spec.specs.declared.refusal.Refusal.TheVariants.{Misplaced}
use Rattle.rmm_spec.specs.declared.tag.Tag.TheVariants.{Rd, Rec}
use Rattle.rmm_spec.specs.Call.{Class, ByHost, ByRealm, ByExit, class_of}
use Rattle.rmm_spec.specs.Lookup.{has_tag, rec_at}
use Rattle.rmm_spec.specs.State.{State}
use Rattle.rmm_spec.specs.Step.{answer_of}
use Rattle.rmm_spec.specs.Step.Realm.{realm_create_told, realm_destroy_told}
use Rattle.rmm_spec.specs.Step.RealmCall.{answer_to_realm, rec_exit}

-- where a command enters a REC, the REC there, if one is, has a realm for its owner
abbrev pub IsOwned : State → Call → Type 0
IsOwned s (RecEnter rec) = IsTrue (has_tag s rec Rec) → IsTrue (has_tag s (rec_at s rec).owner Rd)
IsOwned s _ = Unit {0}

-- a command is given from inside of a REC: an exit reads the REC, and a realm's call its realm besides
abbrev pub IsInsideBy : Class → State → ℕ → Type 0
IsInsideBy ByHost s rec = Unit {0}
IsInsideBy ByRealm s rec = IsTrue (has_tag s rec Rec) × IsTrue (has_tag s (rec_at s rec).owner Rd)
IsInsideBy ByExit s rec = IsTrue (has_tag s rec Rec)

unfoldable pub IsInside : State → ℕ → Call → Type 0
IsInside s rec call = IsInsideBy (class_of call) s rec

-- a host's command is answered by its rows, and no other is given outside of RECs
abbrev pub host_answer : Class → State → ℕ → Call → Result Accepted Refusal
host_answer ByHost s cpu call = answer_of s cpu call
host_answer ByRealm s cpu call = Err (Misplaced OwnInside)
host_answer ByExit s cpu call = Err (Misplaced OwnInside)

-- outside of RECs, where it is told which VMIDs realms have, and which realms RECs belong to
unfoldable pub outside_answer : (ℕ → Bool) → (ℕ → Bool) → State → ℕ → Call → Result Accepted Refusal
outside_answer vmids recs s cpu (RealmCreate rd root width level vmid algo) = realm_create_told (vmids vmid) s rd root width level vmid algo
outside_answer vmids recs s cpu (RealmDestroy rd) = realm_destroy_told (recs rd) s rd
outside_answer vmids recs s cpu call = host_answer (class_of call) s cpu call

-- a realm's call is answered by its rows, while its REC doesn't wait to leave
abbrev pub realm_answer : State → ℕ → Call → Result Accepted Refusal
realm_answer s rec call = if is_none (rec_at s rec).pending then answer_to_realm s rec call else Err (Misplaced OwnPending)

-- a host's command is never given inside of a REC
abbrev pub class_answer : Class → State → ℕ → Call → Result Accepted Refusal
class_answer ByHost s rec call = Err (Misplaced OwnOutside)
class_answer ByRealm s rec call = realm_answer s rec call
class_answer ByExit s rec call = rec_exit s rec

-- inside of the REC at an address
unfoldable pub inside_answer : State → ℕ → Call → Result Accepted Refusal
inside_answer s rec call = class_answer (class_of call) s rec call
