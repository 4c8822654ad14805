-- Cells that no shaped whole has, where a command's plan meets them: the part that is to be taken next is no granule, or it is held
-- as something else than the one that names it says, or at another place; or the REC and the realm of a CPU's place can't be what
-- that says. This project's own.
use Rattle.std.specs.Prelude.{ℕ, Bool, false, not, ◌&&◌, ◌||◌, ◌==◌, List, [], ◌∷◌, Option, Some, None, is_none}
use Rattle.rmm_spec.specs.HistoryText.{Config}
use Rattle.rmm_spec.specs.declared.call.Call.{Call}
use Rattle.rmm_spec.specs.declared.call.Call.TheVariants.{RealmDestroy, RecDestroy, RecEnter}
use Rattle.rmm_spec.specs.declared.tag.Tag.TheVariants as tag
use Rattle.rmm_spec.specs.State.{RecRecord}
use Rattle.rmm_spec.specs.Lookup.{is_granule}
use Rattle.rmm_spec.specs.Step.Terms.{needed}
use Rattle.rmm_spec.specs.Cell.{Cell, Rec, is_aux}
use Rattle.rmm_spec.specs.Shape.{CpuPlace, Outside, Inside}
use Rattle.rmm_spec.specs.Local.{HeldCell}
use Rattle.world_laws.specs.Walking.{Way}
use Rattle.world_laws.specs.Misfits.{is_misfit_root, is_misfit_walk}
use Rattle.command_core.specs.Seen.{cell_in, is_held}
use Rattle.command_core.specs.Walks.{way_taken, way_inside}
use Rattle.command_core.specs.Named.{has_wrong}

-- ---- a REC's two others

abbrev pub is_other_aux : Option Cell → Bool
is_other_aux None = false
is_other_aux (Some cell) = not (is_aux cell)

abbrev pub is_bad_aux : Config → ℕ → List HeldCell → Bool
is_bad_aux config aux held = not (is_granule config.granules aux) || is_other_aux (cell_in aux held)

-- the second is looked at once the first is held
abbrev pub are_bad_auxes : Config → RecRecord → List HeldCell → Bool
are_bad_auxes config rec held =
    is_bad_aux config rec.aux0 held || (is_held rec.aux0 held && is_bad_aux config rec.aux1 held)

-- a REC that runs isn't destroyed, whatever its parts are
abbrev pub has_bad_aux : Config → Option Cell → List HeldCell → Bool
has_bad_aux config (Some (Rec rec)) held = is_none rec.cpu && are_bad_auxes config rec held
has_bad_aux config _ held = false

-- ---- a REC's realm

-- whether an Enter can take the realm of its REC
abbrev pub can_learn : Config → ℕ → ℕ → Bool
can_learn config rec owner = is_granule config.granules owner && not (owner == rec)

abbrev pub has_bad_owner : Config → ℕ → Option Cell → Bool
has_bad_owner config address (Some (Rec rec)) = not (can_learn config address rec.owner)
has_bad_owner config address _ = false

-- ---- a CPU's place

abbrev pub has_other_owner : ℕ → Option Cell → Bool
has_other_owner rd (Some (Rec rec)) = not (rec.owner == rd)
has_other_owner rd _ = false

-- whether the REC and realm of a CPU's place can't be what the place says
unfoldable pub is_misplaced : Config → ℕ → ℕ → List HeldCell → Bool
is_misplaced config rec rd held =
    not (is_granule config.granules rec && is_granule config.granules rd && not (rec == rd))
    || has_wrong (needed rec tag.Rec ∷ needed rd tag.Rd ∷ []) held
    || has_other_owner rd (cell_in rec held)

abbrev pub is_misfit_way : Config → List HeldCell → Option Way → Bool
is_misfit_way config held None = false
is_misfit_way config held (Some way) = is_misfit_walk config held way.rd way.ipa

-- and neither can the tables of the call's walk
abbrev pub is_misfit : Config → Call → ℕ → ℕ → List HeldCell → Bool
is_misfit config call rec rd held = is_misplaced config rec rd held || is_misfit_way config held (way_inside call rec rd held)

-- ---- any command

unfoldable pub has_misfit_part : Config → Call → List HeldCell → Bool
has_misfit_part config (RealmDestroy rd) held = is_misfit_root config held rd (cell_in rd held)
has_misfit_part config (RecDestroy rec) held = has_bad_aux config (cell_in rec held) held
has_misfit_part config (RecEnter rec) held = has_bad_owner config rec (cell_in rec held)
has_misfit_part config call held = false

abbrev pub is_unshaped_outside : Config → Call → List HeldCell → Bool
is_unshaped_outside config call held = has_misfit_part config call held || is_misfit_way config held (way_taken call)

unfoldable pub is_unshaped : Config → Call → CpuPlace → List HeldCell → Bool
is_unshaped config call Outside held = is_unshaped_outside config call held
is_unshaped config call (Inside rec rd) held = is_misfit config call rec rd held
