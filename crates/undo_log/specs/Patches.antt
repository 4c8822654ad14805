-- What is put in places of a machine in place of what is there, so that it can be taken back. This project's own.
use Rattle.std.specs.Prelude.{ℕ, if◌then◌else◌, List, [], ◌∷◌}
use Rattle.rmm_spec.specs.HistoryText.{Config}
use Rattle.rmm_spec.specs.Lookup.{is_granule}
use Rattle.rmm_spec.specs.State.{State}
use Rattle.rmm_spec.specs.Cell.{put}
use Rattle.rmm_spec.specs.Flat.{flat_state}
use Rattle.rmm_spec.specs.Shape.{Side}
use Rattle.rmm_laws.specs.Whole.{IsShaped, Whole}
use Rattle.granule_cells.specs.Seen.{cell_of}
use Rattle.granule_cells.specs.Sides.{with_count, with_vmid}
use Rattle.spec_machine.specs.Whole.{config_of, places_of, whole_of}
use Rattle.spec_machine.specs.declared.granules.Granules.{Granules}
use Rattle.spec_machine.specs.declared.machine.Machine.{Machine}
use Rattle.undo_log.specs.declared.patch.Patch.{Patch}
use Rattle.undo_log.specs.declared.patch.Replaced.{Replaced}
use Rattle.undo_log.specs.declared.patch.Replaced.TheVariants.{Cell, Places, RecCount, Vmid}

-- what a machine keeps of a machine of some size
pub record Standing : Type 0 where
  pub config : Config
  pub whole : Whole

-- what is kept of all granules
abbrev pub standing_in : Granules → Standing
standing_in granules = record { config = config_of granules; whole = whole_of granules }

abbrev pub standing_of : Machine → Standing
standing_of machine = standing_in machine.granules

-- every name in it leads to what it names
abbrev pub IsWhole : Standing → Type 0
IsWhole s = IsShaped s.config s.whole

unfoldable pub state_at : Standing → State
state_at s = flat_state s.config s.whole.cells

-- so many RECs belong to the realm, where a granule lies at its address
abbrev pub counted_in : ℕ → Side → ℕ → ℕ → Side
counted_in granules side rd count = if is_granule granules rd then with_count side rd count else side

-- one is put in its place; what is no granule holds nothing else
abbrev pub put_in : Replaced → Standing → Standing
put_in (Cell granule cell) s =
    if is_granule s.config.granules granule
    then record { config = s.config; whole = record s.whole { cells = put s.whole.cells granule (cell_of cell) } }
    else s
put_in (Vmid vmid realm) s = record { config = s.config; whole = record s.whole { side = with_vmid s.whole.side vmid realm } }
put_in (RecCount rd count) s = record {
  config = s.config;
  whole = record s.whole { side = counted_in s.config.granules s.whole.side rd count };
}
put_in (Places places) s = record { config = s.config; whole = record s.whole { places = places_of places } }

-- each is, the first one last
abbrev pub put_all : List Replaced → Standing → Standing
put_all [] s = s
put_all (replaced ∷ others) s = put_in replaced (put_all others s)

unfoldable pub patched : Patch → Standing → Standing
patched patch = put_all patch.items.items
