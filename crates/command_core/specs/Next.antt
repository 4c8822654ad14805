-- What a CPU does next for its command, as one value of what it holds. Where that settles the command, it commits. Else its plan
-- wants one granule, which it takes where that take is rising, and where it isn't it frees what it took last: so it begins anew
-- from cells that no plan leads to. An Enter that holds its REC and has learnt nothing frees it and learns its realm.
-- This project's own.
use Rattle.std.specs.Prelude.{ℕ, ◌-◌, Bool, true, false, ◌&&◌, ◌==◌, if◌then◌else◌, List, [], ◌∷◌, length, Option, Some, None, unwrap_or, slice_get}
use Rattle.rmm_spec.specs.HistoryText.{Config}
use Rattle.rmm_spec.specs.declared.call.Call.{Call}
use Rattle.rmm_spec.specs.declared.call.Call.TheVariants.{RealmDestroy, RecDestroy, RecEnter}
use Rattle.rmm_spec.specs.declared.tag.Tag.TheVariants as tag
use Rattle.rmm_spec.specs.Call.{Class, ByHost, ByRealm, ByExit, class_of}
use Rattle.rmm_spec.specs.State.{RecRecord}
use Rattle.rmm_spec.specs.Rows.{Needed}
use Rattle.rmm_spec.specs.Step.Terms.{needed, named}
use Rattle.rmm_spec.specs.Cell.{Cell, Rd, Rec}
use Rattle.rmm_spec.specs.Shape.{CpuPlace, Outside, Inside}
use Rattle.rmm_spec.specs.Local.{HeldCell, granules_held}
use Rattle.rmm_spec.specs.Locks.{needs_outside}
use Rattle.command_core.specs.declared.next.Next.{Next}
use Rattle.command_core.specs.declared.next.Next.TheVariants.{Take, Free, Ready}
use Rattle.world_laws.specs.Walking.{Way, keeps_realm, are_told}
use Rattle.command_core.specs.Seen.{cell_in, is_held}
use Rattle.command_core.specs.Walks.{Part, spare, wanted, way_taken, way_inside}
use Rattle.command_core.specs.Named.{is_upward, is_downward, least_missing}
use Rattle.command_core.specs.Settled.{is_settled}

-- ---- one step

abbrev pub last_taken : List HeldCell → Option ℕ
last_taken held = slice_get (granules_held held) (length (granules_held held) - 1)

-- what is wanted is taken where that may be; else the last taken is freed, with nothing learnt
abbrev pub taken : ℕ → Bool → Option ℕ → Next
taken next true last = Take next
taken next false (Some granule) = Free granule None
taken next false None = Take next

abbrev pub take_named : Config → List Needed → List HeldCell → ℕ → Next
take_named config names held next = taken next (is_upward config names held next) (last_taken held)

-- the least that is named and missing; another that is named, where none is missing
abbrev pub take_least : Config → Bool → List Needed → List HeldCell → ℕ → Next
take_least config keeps names held other = take_named config names held (unwrap_or (least_missing config keeps names held) other)

abbrev pub take_part : Config → List Needed → List HeldCell → ℕ → ℕ → ℕ → Next
take_part config names held above index next = taken next (is_downward config names held above index next) (last_taken held)

-- a part that a walk wants; where there is none, the realm stands for it, which can't be taken then
abbrev pub take_wanted : Config → List Needed → List HeldCell → ℕ → Option Part → Next
take_wanted config names held rd None = taken rd false (last_taken held)
take_wanted config names held rd (Some part) = take_part config names held part.above part.index part.next

-- what the plan frees goes before what it wants
abbrev pub free_or_take : Config → List Needed → List HeldCell → ℕ → Option ℕ → Option Part → Next
free_or_take config names held rd (Some granule) part = Free granule None
free_or_take config names held rd None part = take_wanted config names held rd part

-- ---- commands with parts

-- a realm, and then its root
abbrev pub take_root : Config → List Needed → List HeldCell → ℕ → Option Cell → Next
take_root config names held rd (Some (Rd realm)) = take_part config names held rd 0 realm.root
take_root config names held rd _ = take_named config names held rd

abbrev pub next_aux : RecRecord → List HeldCell → ℕ
next_aux rec held = if is_held rec.aux0 held then rec.aux1 else rec.aux0

-- a REC, and then its two others
abbrev pub take_auxes : Config → List Needed → List HeldCell → ℕ → Option Cell → Next
take_auxes config names held rec (Some (Rec it)) = take_part config names held rec 0 (next_aux it held)
take_auxes config names held rec _ = take_named config names held rec

-- an Enter takes its REC, and frees it as it learns the realm
abbrev pub learn_realm : Config → List HeldCell → ℕ → Option Cell → Next
learn_realm config held rec (Some (Rec it)) = Free rec (Some it.owner)
learn_realm config held rec _ = take_named config (named (RecEnter rec)) held rec

-- With a realm learnt it takes the two by address. Where the REC is another realm's by now, or the realm no realm, it begins anew.
abbrev pub take_realm : Config → List HeldCell → ℕ → ℕ → Option Cell → Next
take_realm config held rec rd (Some (Rec it)) =
    taken rd (rd == it.owner && is_upward config (needs_outside (Some rd) (RecEnter rec)) held rd) (last_taken held)
take_realm config held rec rd _ = take_least config true (needs_outside (Some rd) (RecEnter rec)) held rec

abbrev pub next_to_enter : Config → ℕ → Option Cell → List HeldCell → Option ℕ → Next
next_to_enter config rec cell held None = learn_realm config held rec cell
next_to_enter config rec cell held (Some rd) = take_realm config held rec rd cell

-- ---- any command

abbrev pub first_named : List Needed → ℕ
first_named [] = 0
first_named (n ∷ names) = n.granule

unfoldable pub next_with_parts : Config → Call → Option ℕ → List HeldCell → Next
next_with_parts config (RealmDestroy rd) learnt held = take_root config (named (RealmDestroy rd)) held rd (cell_in rd held)
next_with_parts config (RecDestroy rec) learnt held = take_auxes config (named (RecDestroy rec)) held rec (cell_in rec held)
next_with_parts config (RecEnter rec) learnt held = next_to_enter config rec (cell_in rec held) held learnt
next_with_parts config call learnt held = take_least config true (named call) held (first_named (named call))

-- a walk begins once all that is named is told: held, or the realm of a table that is held
abbrev pub next_to_walk : Config → Call → List HeldCell → Way → Next
next_to_walk config call held way =
    if are_told call held
    then free_or_take config (named call) held way.rd (spare config (keeps_realm call) held way) (wanted config call held way)
    else take_least config (keeps_realm call) (named call) held (first_named (named call))

abbrev pub next_on_way : Config → Call → Option ℕ → List HeldCell → Option Way → Next
next_on_way config call learnt held None = next_with_parts config call learnt held
next_on_way config call learnt held (Some way) = next_to_walk config call held way

abbrev pub next_outside : Config → Call → Option ℕ → List HeldCell → Next
next_outside config call learnt held = next_on_way config call learnt held (way_taken call)

abbrev pub place_names : ℕ → ℕ → List Needed
place_names rec rd = needed rec tag.Rec ∷ needed rd tag.Rd ∷ []

-- a realm's call takes the REC and its realm, and then the tables that it walks
abbrev pub next_to_read : Config → Call → ℕ → ℕ → List HeldCell → Option Way → Next
next_to_read config call rec rd held None = take_least config true (place_names rec rd) held rec
next_to_read config call rec rd held (Some way) =
    free_or_take config (place_names rec rd) held way.rd (spare config true held way) (wanted config call held way)

-- an exit takes the REC alone
abbrev pub next_inside : Class → Config → Call → ℕ → ℕ → List HeldCell → Next
next_inside ByHost config call rec rd held = take_least config true (place_names rec rd) held rec
next_inside ByRealm config call rec rd held = next_to_read config call rec rd held (way_inside call rec rd held)
next_inside ByExit config call rec rd held = take_named config (place_names rec rd) held rec

abbrev pub next_unsettled : Config → Call → CpuPlace → Option ℕ → List HeldCell → Next
next_unsettled config call Outside learnt held = next_outside config call learnt held
next_unsettled config call (Inside rec rd) learnt held = next_inside (class_of call) config call rec rd held

unfoldable pub next : Config → Call → CpuPlace → Option ℕ → List HeldCell → Next
next config call place learnt held = if is_settled config call place held then Ready else next_unsettled config call place learnt held
