-- What a walk of a command has come to, told by the tables that are held: which level, what its plan frees before it goes on, and
-- the part that it takes next. This project's own.
use Rattle.std.specs.Prelude.{ℕ, ◌-◌, ◌/◌, ◌%◌, Bool, false, not, ◌&&◌, ◌||◌, ◌==◌, nat_lt, if◌then◌else◌, List, Option, Some, None, is_some, is_none}
use Rattle.rmm_spec.specs.Rows.{all_allowed}
use Rattle.rmm_spec.specs.HistoryText.{Config}
use Rattle.rmm_spec.specs.declared.call.Call.{Call}
use Rattle.rmm_spec.specs.declared.call.Call.TheVariants as call
use Rattle.rmm_spec.specs.Step.Terms.{words_of}
use Rattle.rmm_spec.specs.Table.{TableRecord}
use Rattle.rmm_spec.specs.Walk.{table_number, entry_number, reach, is_protected}
use Rattle.rmm_spec.specs.Cell.{Cell, Rd, Rec}
use Rattle.rmm_spec.specs.Local.{HeldCell}
use Rattle.world_laws.specs.Held.{cell_in, is_held}
use Rattle.world_laws.specs.SeenState.{table_held, first_held, table_behind, table_placed, table_seen, seen_state}
use Rattle.world_laws.specs.Walking.{Way, way, way_of, keeps_realm, part_below, end_entry, are_told, is_refused_early, seen_answer, is_way_settled}

-- where a host's command walks, if its words are allowed
unfoldable pub way_taken : Call → Option Way
way_taken call = if all_allowed (words_of call) then way_of call else None

-- where a realm's call walks: with good words, from a REC that doesn't wait to leave
abbrev pub way_to_read : ℕ → ℕ → Option Cell → Option Cell → Option Way
way_to_read rd ipa (Some (Rec it)) (Some (Rd realm)) = if is_none it.pending && is_protected realm ipa then Some (way rd ipa 3) else None
way_to_read rd ipa _ _ = None

unfoldable pub way_inside : Call → ℕ → ℕ → List HeldCell → Option Way
way_inside (call.IpaStateGet ipa) rec rd held = way_to_read rd ipa (cell_in rec held) (cell_in rd held)
way_inside call rec rd held = None

-- ---- how far

-- the level at which the walk that the held cells tell of ends
abbrev pub end_level : Config → List HeldCell → Way → ℕ
end_level config held w = reach (seen_state config held) w.rd w.ipa w.max

-- the granule of the table there, where it is held
abbrev pub end_table : Config → List HeldCell → Way → Option ℕ
end_table config held w = table_placed held w.rd (end_level config held w) (table_number (end_level config held w) w.ipa)

-- the level of the deepest table of the walk that is held: that of its end, or of the link to it
unfoldable pub come_to : Config → List HeldCell → Way → ℕ
come_to config held w = if is_some (end_table config held w) then end_level config held w else end_level config held w - 1

-- ---- what is freed

-- whether a table is one of the realm's above the level
abbrev pub is_above : ℕ → ℕ → Option TableRecord → Bool
is_above rd level None = false
is_above rd level (Some table) = table.place.rd == rd && nat_lt table.place.level level

-- a realm isn't kept once its table is held, but by a command that reads more of it than its address space
abbrev pub is_realm_spare : Bool → List HeldCell → ℕ → Bool
is_realm_spare keeps held rd = not keeps && (is_held rd held && is_some (table_behind held rd))

-- what the plan frees before it goes on: the realm, or a table above the one that the walk has come to
unfoldable pub spare : Config → Bool → List HeldCell → Way → Option ℕ
spare config keeps held w =
    if is_realm_spare keeps held w.rd then Some w.rd
    else first_held (λ granule. is_above w.rd (come_to config held w) (table_held held granule)) held

-- ---- what settles a walk

-- the rows before it refuse, or its end is held, with the part below that the command takes out, and nothing that the plan frees
unfoldable pub is_walk_over : Config → Call → List HeldCell → Way → Bool
is_walk_over config c held w =
    are_told c held
    && (is_refused_early (seen_answer config c held)
    || (is_way_settled config c held (Some w) && is_none (spare config (keeps_realm c) held w)))

-- ---- what is taken

-- a part of what is held: the granule that names it, at which of its entries where that is a table's, and the part
pub record Part : Type 0 where
  pub above : ℕ
  pub index : ℕ
  pub next : ℕ

-- the part that an entry for an address names, in the table that is held at its level
abbrev pub part_at : Option ℕ → ℕ → Option ℕ → Option Part
part_at (Some above) number (Some next) = Some (record { above = above; index = number % 512; next = next })
part_at _ number _ = None

-- a realm's root
abbrev pub root_part : ℕ → Option Cell → Option Part
root_part rd (Some (Rd realm)) = Some (record { above = rd; index = 0; next = realm.root })
root_part rd _ = None

-- the table at the walk's end, below the link to it, or the root
unfoldable pub link_part : Config → List HeldCell → Way → Option Part
link_part config held w =
    let level = end_level config held w in
    let number = table_number level w.ipa in
    if is_none (table_behind held w.rd) then root_part w.rd (cell_in w.rd held)
    else part_at (table_placed held w.rd (level - 1) (number / 512)) number (table_seen held w.rd level number)

-- below the table at its end, where that is held, the part that the command takes out; else that table
unfoldable pub wanted : Config → Call → List HeldCell → Way → Option Part
wanted config c held w =
    if is_none (end_table config held w) then link_part config held w
    else part_at (end_table config held w) (entry_number (end_level config held w) w.ipa) (part_below c (end_entry config held w))
