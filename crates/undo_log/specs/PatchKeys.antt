-- What lies in a granule after a patch, and how it is compared. This project's own.
use Rattle.std.specs.Prelude.{◌≡◌, ℕ, Bool, true, false, List}
use Rattle.rmm_spec.specs.Cell as spec
use Rattle.undo_log.specs.Patches.{Standing, put_all}
use Rattle.spec_machine.specs.Unmeasured.{unmeasured_cell}
use Rattle.undo_log.specs.declared.patch.Replaced.{Replaced}
use Rattle.undo_log.specs.declared.patch.Replaced.TheVariants.{Cell, Places, RecCount, Vmid}

-- what lies in a granule after all are put in
abbrev pub cell_after : List Replaced → Standing → ℕ → spec.Cell
cell_after items s granule = (put_all items s).whole.cells granule

-- a cell as it is compared, with what was measured or without
abbrev pub compared : Bool → spec.Cell → spec.Cell
compared true cell = cell
compared false cell = unmeasured_cell cell

-- after two patches the same lies in a granule
abbrev pub AreAlikeAt : Bool → List Replaced → List Replaced → Standing → ℕ → Type 0
AreAlikeAt measured one other s granule = compared measured (cell_after one s granule) ≡ compared measured (cell_after other s granule)

-- and so in the granule of an item, where it puts a cell in
abbrev pub AreAlikeIn : Bool → List Replaced → List Replaced → Standing → Replaced → Type 0
AreAlikeIn measured one other s (Cell granule cell) = AreAlikeAt measured one other s granule
AreAlikeIn measured one other s (Vmid vmid realm) = Unit {0}
AreAlikeIn measured one other s (RecCount rd count) = Unit {0}
AreAlikeIn measured one other s (Places places) = Unit {0}
