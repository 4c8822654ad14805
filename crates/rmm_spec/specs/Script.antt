-- How a script is replayed; and worked scripts of realms and RECs: runs of CPU 0 on a machine of 16 granules, written out with their
-- replies.
use Rattle.std.specs.Prelude.{ℕ, zero, suc, ◌*◌, Bool, true, false, ◌&&◌, ◌==◌, if◌then◌else◌, List, [], ◌∷◌, ◌++◌, Option, Some, None, Result, Ok, Err, option_map}
use Rattle.std.specs.Option.{option_and_then}
use Rattle.rmm_spec.specs.declared.version.Version.TheVariants.{One, Two}
use Rattle.rmm_spec.specs.declared.accepted.Accepted.{Accepted}
use Rattle.rmm_spec.specs.declared.accepted.Accepted.TheVariants.{Done, Reaches}
use Rattle.rmm_spec.specs.declared.function_id.FunctionId.{FunctionId}
use Rattle.rmm_spec.specs.declared.function_id.FunctionId.TheVariants.{GranuleDelegate, RealmActivate, RealmCreate, RealmDestroy, RecCreate, RecDestroy, RecEnter, MeasurementRead, MeasurementExtend, RealmConfig, IpaStateSet, HostCall, CpuOff, SystemOff, Exit}
use Rattle.rmm_spec.specs.declared.refusal.Refusal.{Refusal}
use Rattle.rmm_spec.specs.declared.reply.Reply.{Reply}
use Rattle.rmm_spec.specs.declared.reply.Reply.TheVariants as reply
use Rattle.rmm_spec.specs.HistoryText.{Config}
use Rattle.rmm_spec.specs.Rows.{ok, reply_of}
use Rattle.rmm_spec.specs.Call.{call_of}
use Rattle.rmm_spec.specs.Change.{changed}
use Rattle.rmm_spec.specs.State.{State}
use Rattle.rmm_spec.specs.Step.{outcome}
use Rattle.rmm_spec.specs.Step.Ripas.{is_reached, reached_change}
use Rattle.rmm_spec.specs.Run.{JournalEntry}

-- ---- replays

abbrev pub are_same_words : List ℕ → List ℕ → Bool
are_same_words [] [] = true
are_same_words (a ∷ others) (b ∷ rest) = a == b && are_same_words others rest
are_same_words [] (b ∷ rest) = false
are_same_words (a ∷ others) [] = false

abbrev pub is_same_reply : Reply → Reply → Bool
is_same_reply (reply.Ok a) (reply.Ok b) = are_same_words a.items b.items
is_same_reply (reply.Err a i) (reply.Err b j) = a == b && i == j
is_same_reply reply.Misplaced reply.Misplaced = true
is_same_reply _ _ = false

-- the one word, where it is allowed
abbrev pub end_among : List ℕ → (ℕ → Bool) → Option ℕ
end_among [] is_allowed = None
end_among (top ∷ []) is_allowed = if is_allowed top then Some top else None
end_among (top ∷ (other ∷ others)) is_allowed = None

-- the end of a stretch that a reply gives, where the specification allows it
abbrev pub end_given : Reply → (ℕ → Bool) → Option ℕ
end_given (reply.Ok words) is_allowed = end_among words.items is_allowed
end_given _ is_allowed = None

-- the next state, where what the specification answers is this reply
abbrev pub next_by : Result Accepted Refusal → State → Reply → Option State
next_by (Err refused) s given = if is_same_reply given (reply_of refused) then Some s else None
next_by (Ok (Done words change)) s given = if is_same_reply given (reply.Ok words) then Some (changed s change) else None
next_by (Ok (Reaches stretch)) s given = option_map (λ top. changed s (reached_change stretch top)) (end_given given (is_reached s stretch))

-- the last state, where the specification gives each reply
unfoldable pub replay : State → List JournalEntry → Option State
replay s [] = Some s
replay s (entry ∷ entries) =
    option_and_then (λ next. replay next entries) (next_by (outcome s entry.cpu (call_of entry.command)) s entry.given)

-- ---- scripts

-- the machine of the scripts
abbrev pub script_config : Config
script_config = record { granules = 16; cpus = 1; version = One }

-- the same machine in version 2
abbrev pub version_two_config : Config
version_two_config = record script_config { version = Two }

abbrev pub answered : FunctionId → List ℕ → Reply → JournalEntry
answered function words given = record { cpu = 0; command = record { function = function; words = record { items = words } }; given = given }

-- the first granules behind that at 0 are delegated
abbrev pub delegated : ℕ → List JournalEntry
delegated zero = []
delegated (suc n) = delegated n ++ answered GranuleDelegate (0x1000 * suc n ∷ []) (ok []) ∷ []

-- of so many, the first two are a realm of 39 bits and its root
abbrev pub realm_among : ℕ → List JournalEntry
realm_among n = delegated n ++ answered RealmCreate (0x1000 ∷ 0x2000 ∷ 39 ∷ 1 ∷ 1 ∷ 0 ∷ []) (ok []) ∷ []

-- its REC is made, isn't entered while the realm is new, and then is
abbrev entered_rec : List JournalEntry
entered_rec =
    realm_among 5
    ++ answered RecCreate (0x1000 ∷ 0x3000 ∷ 0 ∷ 1 ∷ 0x4000 ∷ 0x5000 ∷ []) (ok [])
    ∷ answered RecEnter (0x3000 ∷ []) (reply.Err 2 0)
    ∷ answered RealmActivate (0x1000 ∷ []) (ok [])
    ∷ answered RecEnter (0x3000 ∷ []) (ok (0 ∷ []))
    ∷ []

-- a REC is made, entered, leaves, and is gone with its realm
unfoldable pub life_of_a_rec : List JournalEntry
life_of_a_rec =
    entered_rec
    ++ answered MeasurementRead (1 ∷ []) (ok (0 ∷ 0 ∷ 0 ∷ 0 ∷ []))
    ∷ answered HostCall (42 ∷ []) (ok [])
    ∷ answered HostCall (42 ∷ []) reply.Misplaced
    ∷ answered Exit [] (ok (5 ∷ 42 ∷ 0 ∷ 0 ∷ []))
    ∷ answered RecEnter (0x3000 ∷ []) (ok (0 ∷ []))
    ∷ answered SystemOff [] (ok [])
    ∷ answered Exit [] (ok (3 ∷ 0x84000008 ∷ 0 ∷ 0 ∷ []))
    ∷ answered RecEnter (0x3000 ∷ []) (reply.Err 2 1)
    ∷ answered RecDestroy (0x3000 ∷ []) (ok [])
    ∷ answered RealmDestroy (0x1000 ∷ []) (ok [])
    ∷ []

-- realm calls out of range are refused, and a REC that turned itself off isn't entered again
unfoldable pub off_and_out_of_range : List JournalEntry
off_and_out_of_range =
    entered_rec
    ++ answered MeasurementExtend (1 ∷ 65 ∷ 0 ∷ 0 ∷ 0 ∷ 0 ∷ 0 ∷ 0 ∷ 0 ∷ 0 ∷ []) (reply.Err 1 0)
    ∷ answered MeasurementExtend (0 ∷ 1 ∷ 0 ∷ 0 ∷ 0 ∷ 0 ∷ 0 ∷ 0 ∷ 0 ∷ 0 ∷ []) (reply.Err 1 0)
    ∷ answered GranuleDelegate (0x6000 ∷ []) reply.Misplaced
    ∷ answered IpaStateSet (0 ∷ 0x1000 ∷ 2 ∷ []) (reply.Err 1 0)
    ∷ answered HostCall (0x10000 ∷ []) (reply.Err 1 0)
    ∷ answered CpuOff [] (ok [])
    ∷ answered Exit [] (ok (3 ∷ 0x84000002 ∷ 0 ∷ 0 ∷ []))
    ∷ answered RecEnter (0x3000 ∷ []) (reply.Err 3 0)
    ∷ answered Exit [] reply.Misplaced
    ∷ []

-- realms and RECs are made and destroyed, in their order and out of it
unfoldable pub realms_and_recs_come_and_go : List JournalEntry
realms_and_recs_come_and_go =
    realm_among 8
    ++ answered RealmCreate (0x3000 ∷ 0x4000 ∷ 39 ∷ 1 ∷ 1 ∷ 0 ∷ []) (reply.Err 1 0)
    ∷ answered RecCreate (0x1000 ∷ 0x5000 ∷ 0 ∷ 1 ∷ 0x6000 ∷ 0x7000 ∷ []) (ok [])
    ∷ answered RecCreate (0x1000 ∷ 0x3000 ∷ 0 ∷ 1 ∷ 0x4000 ∷ 0x8000 ∷ []) (reply.Err 1 0)
    ∷ answered RealmDestroy (0x1000 ∷ []) (reply.Err 2 0)
    ∷ answered RecDestroy (0x5000 ∷ []) (ok [])
    ∷ answered RecCreate (0x1000 ∷ 0x5000 ∷ 0 ∷ 1 ∷ 0x6000 ∷ 0x7000 ∷ []) (reply.Err 1 0)
    ∷ answered RealmActivate (0x1000 ∷ []) (ok [])
    ∷ answered RealmActivate (0x1000 ∷ []) (reply.Err 2 0)
    ∷ answered RecCreate (0x1000 ∷ 0x5000 ∷ 1 ∷ 1 ∷ 0x6000 ∷ 0x7000 ∷ []) (reply.Err 2 0)
    ∷ answered RealmDestroy (0x1000 ∷ []) (ok [])
    ∷ answered RealmCreate (0x3000 ∷ 0x4000 ∷ 48 ∷ 0 ∷ 1 ∷ 0 ∷ []) (ok [])
    ∷ []

-- in version 2 a realm is measured by SHA-512: it is told so, and reads eight words
unfoldable pub realm_of_algo_1 : List JournalEntry
realm_of_algo_1 =
    delegated 5
    ++ answered RealmCreate (0x1000 ∷ 0x2000 ∷ 39 ∷ 1 ∷ 1 ∷ 1 ∷ []) (ok [])
    ∷ answered RecCreate (0x1000 ∷ 0x3000 ∷ 0 ∷ 1 ∷ 0x4000 ∷ 0x5000 ∷ []) (ok [])
    ∷ answered RealmActivate (0x1000 ∷ []) (ok [])
    ∷ answered RecEnter (0x3000 ∷ []) (ok (0 ∷ []))
    ∷ answered RealmConfig [] (ok (39 ∷ 1 ∷ []))
    ∷ answered MeasurementRead (1 ∷ []) (ok (0 ∷ 0 ∷ 0 ∷ 0 ∷ 0 ∷ 0 ∷ 0 ∷ 0 ∷ []))
    ∷ answered MeasurementRead (5 ∷ []) (reply.Err 1 0)
    ∷ []
