-- Where what a CPU holds settles its command, so that it takes no further lock: its words or a tag refuse it, or all that its
-- rows read is held. Which granules a command names is told by the definitions; parts of them are looked at one after the
-- other. Cells that no shape has settle it too, as misplaced. This project's own.
use Rattle.std.specs.Prelude.{ℕ, Bool, true, false, not, ◌&&◌, ◌||◌, List, Option, Some, None, is_some, is_none}
use Rattle.rmm_spec.specs.HistoryText.{Config}
use Rattle.rmm_spec.specs.declared.call.Call.{Call}
use Rattle.rmm_spec.specs.declared.call.Call.TheVariants.{RealmDestroy, RecDestroy, RecEnter}
use Rattle.rmm_spec.specs.Call.{Class, ByHost, ByRealm, ByExit, class_of}
use Rattle.rmm_spec.specs.Step.Terms.{named}
use Rattle.rmm_spec.specs.Cell.{Cell, Rd, Rec}
use Rattle.rmm_spec.specs.Shape.{CpuPlace, Outside, Inside}
use Rattle.rmm_spec.specs.Local.{HeldCell}
use Rattle.world_laws.specs.Walking.{Way, is_walk_held}
use Rattle.command_core.specs.Seen.{cell_in, is_held}
use Rattle.command_core.specs.Walks.{spare, is_walk_over, way_taken, way_inside}
use Rattle.command_core.specs.Named.{has_wrong, words_fit, holds_all}
use Rattle.command_core.specs.Unshaped.{is_misfit, is_unshaped_outside}

-- ---- parts

abbrev pub is_root_held : Option Cell → List HeldCell → Bool
is_root_held (Some (Rd realm)) held = is_held realm.root held
is_root_held _ held = false

-- a REC that runs isn't destroyed, whatever its parts are
abbrev pub are_auxes_held : Option Cell → List HeldCell → Bool
are_auxes_held (Some (Rec rec)) held = is_some rec.cpu || (is_held rec.aux0 held && is_held rec.aux1 held)
are_auxes_held _ held = false

abbrev pub is_realm_in : Option Cell → Bool
is_realm_in (Some (Rd realm)) = true
is_realm_in _ = false

abbrev pub is_owner_held : Option Cell → List HeldCell → Bool
is_owner_held (Some (Rec rec)) held = is_realm_in (cell_in rec.owner held)
is_owner_held _ held = false

-- ---- commands

-- whether all is held that the rows behind a command's words and tags read, where it walks no table
unfoldable pub is_complete : Call → List HeldCell → Bool
is_complete (RealmDestroy rd) held = is_root_held (cell_in rd held) held
is_complete (RecDestroy rec) held = are_auxes_held (cell_in rec held) held
is_complete (RecEnter rec) held = is_owner_held (cell_in rec held) held
is_complete call held = holds_all (named call) held

-- and where it walks one
abbrev pub is_all_held : Config → Call → List HeldCell → Option Way → Bool
is_all_held config call held None = is_complete call held
is_all_held config call held (Some way) = is_walk_over config call held way

-- a host's command is given outside of RECs
abbrev pub is_settled_outside : Class → Config → Call → List HeldCell → Bool
is_settled_outside ByHost config call held =
    not (words_fit config call) || has_wrong (named call) held || is_unshaped_outside config call held
    || is_all_held config call held (way_taken call)
is_settled_outside ByRealm config call held = true
is_settled_outside ByExit config call held = true

-- whether the walk of a realm's call has come to its end, and nothing is held that the plan frees
abbrev pub is_read_over : Config → List HeldCell → Option Way → Bool
is_read_over config held None = true
is_read_over config held (Some way) = is_walk_held config held way && is_none (spare config true held way)

-- a realm's call reads the REC and its realm, and may walk; an exit reads the REC alone
abbrev pub is_settled_inside : Class → Config → Call → ℕ → ℕ → List HeldCell → Bool
is_settled_inside ByHost config call rec rd held = true
is_settled_inside ByRealm config call rec rd held =
    is_misfit config call rec rd held
    || (is_held rec held && is_held rd held && is_read_over config held (way_inside call rec rd held))
is_settled_inside ByExit config call rec rd held = is_misfit config call rec rd held || is_held rec held

unfoldable pub is_settled : Config → Call → CpuPlace → List HeldCell → Bool
is_settled config call Outside held = is_settled_outside (class_of call) config call held
is_settled config call (Inside rec rd) held = is_settled_inside (class_of call) config call rec rd held
