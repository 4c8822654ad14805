-- The commands that walk a realm's tables: where each walks, and where what is held settles it. Then the table at which its walk
-- ends is held, and what it names, and a part below that it takes out; its realm may be free by then. A refusal by the rows before
-- the walk needs no table. This project's own.
use Rattle.std.specs.Prelude.{ℕ, ◌-◌, Bool, true, false, not, ◌&&◌, ◌||◌, ◌==◌, List, Option, Some, None, is_some, Result, Ok, Err}
use Rattle.std.specs.List.{list_all}
use Rattle.rmm_spec.specs.HistoryText.{Config}
use Rattle.rmm_spec.specs.declared.accepted.Accepted.{Accepted}
use Rattle.rmm_spec.specs.declared.call.Call.{Call}
use Rattle.rmm_spec.specs.declared.call.Call.TheVariants as call
use Rattle.rmm_spec.specs.declared.entry.Entry.{Entry}
use Rattle.rmm_spec.specs.declared.entry.Entry.TheVariants.{Assigned, Table}
use Rattle.rmm_spec.specs.declared.refusal.Refusal.{Refusal}
use Rattle.rmm_spec.specs.declared.refusal.Refusal.TheVariants as of
use Rattle.rmm_spec.specs.declared.tag.Tag.TheVariants.{Rd}
use Rattle.rmm_spec.specs.State.{State}
use Rattle.rmm_spec.specs.Lookup.{tag_number}
use Rattle.rmm_spec.specs.Walk.{table_number, is_table, entry_for, reach}
use Rattle.rmm_spec.specs.Rows.{Needed}
use Rattle.rmm_spec.specs.Step.{answer_of}
use Rattle.rmm_spec.specs.Step.Terms.{named}
unfoldable pub use Rattle.rmm_spec.specs.Step.Terms.{way_of}
pub use Rattle.rmm_spec.specs.Step.Terms.{Way, way}
use Rattle.rmm_spec.specs.Local.{HeldCell}
use Rattle.world_laws.specs.Held.{is_held}
use Rattle.world_laws.specs.SeenState.{table_behind, table_placed, seen_state}

-- ---- what each command walks for

-- whether a command reads more of its realm than the address space, and changes its record: it keeps the realm to its commit
unfoldable pub keeps_realm : Call → Bool
keeps_realm (call.DataCreate rd granule ipa source flags digest) = true
keeps_realm (call.RttInitRipas rd base top) = true
keeps_realm _ = false

-- the granule below the walk's end that a command takes out, by the entry there: a table that it reads first, or a page
unfoldable pub part_below : Call → Entry → Option ℕ
part_below (call.RttRemove removal rd ipa level) (Table granule) = Some granule
part_below (call.DataDestroy rd ipa) (Assigned ripas granule) = Some granule
part_below call entry = None

-- ---- where a walk ends

-- Whether the walk that the held cells tell of ends at a table that is held: at the last level that is asked for, or at an
-- entry that is no link. Where it isn't, the table at its end is the next one to look at.
unfoldable pub is_walk_held : Config → List HeldCell → Way → Bool
is_walk_held config held w =
    let s : State = seen_state config held in
    let level = reach s w.rd w.ipa w.max in
    is_some (table_placed held w.rd level (table_number level w.ipa))
    && (level == w.max || not (is_table (entry_for s w.rd level w.ipa)))

-- the entry for the address at which that walk ends
abbrev pub end_entry : Config → List HeldCell → Way → Entry
end_entry config held w =
    entry_for (seen_state config held) w.rd (reach (seen_state config held) w.rd w.ipa w.max) w.ipa

-- whether the part below, if the command takes one out, is held
abbrev pub is_part_held : Option ℕ → List HeldCell → Bool
is_part_held None held = true
is_part_held (Some granule) held = is_held granule held

-- ---- what is told of named granules

-- whether a granule's tag is told: it is held, or it is the realm of a table that is held
abbrev pub is_told : Bool → List HeldCell → Needed → Bool
is_told keeps held n =
    is_held n.granule held || (not keeps && tag_number n.tag == tag_number Rd && is_some (table_behind held n.granule))

unfoldable pub are_told : Call → List HeldCell → Bool
are_told c held = list_all (is_told (keeps_realm c) held) (named c)

-- ---- what settles a command

-- whether a refusal is ERROR_RTT, which rows over tables alone give
abbrev pub is_table_error : Refusal → Bool
is_table_error (of.Rtt condition level) = true
is_table_error _ = false

-- whether the rows before the walk refuse
abbrev pub is_refused_early : Result Accepted Refusal → Bool
is_refused_early (Ok accepted) = false
is_refused_early (Err refusal) = not (is_table_error refusal)

-- what a host's command is answered in the state that the held cells tell of: none that walks asks for the CPU
abbrev pub seen_answer : Config → Call → List HeldCell → Result Accepted Refusal
seen_answer config c held = answer_of (seen_state config held) 0 c

-- whether the walk's end is held, with what is taken out below it
abbrev pub is_way_settled : Config → Call → List HeldCell → Option Way → Bool
is_way_settled config c held None = false
is_way_settled config c held (Some w) = is_walk_held config held w && is_part_held (part_below c (end_entry config held w)) held

-- whether what is held settles a host's command that walks
unfoldable pub is_walk_settled : Config → Call → List HeldCell → Bool
is_walk_settled config c held =
    are_told c held && (is_refused_early (seen_answer config c held) || is_way_settled config c held (way_of c))

-- whether each named granule is held, but for the realm where the command doesn't keep it
unfoldable pub is_kept : Call → List HeldCell → Bool
is_kept c held = list_all (λ (n : Needed). is_held n.granule held || (not (keeps_realm c) && tag_number n.tag == tag_number Rd)) (named c)
