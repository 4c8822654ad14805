-- What a log has before a change, so that it leads back.
use Rattle.std.specs.Prelude.{◌≡◌, ℕ, Bool, true, false, ◌==◌, IsTrue, List, Option, Some, IfSome, Ok}
use Rattle.std.specs.List.{list_any, AllByRecursion}
use Rattle.rmm_spec.specs.declared.accepted.Accepted.{Accepted}
use Rattle.rmm_spec.specs.declared.change.Change.{Change}
use Rattle.rmm_spec.specs.declared.change.Change.TheVariants.{RealmMade, RealmDestroyed, RecMade, RecDestroyed, RecordsChanged, EntriesChanged}
use Rattle.rmm_spec.specs.declared.command.Command.{Command}
use Rattle.rmm_spec.specs.Call.{call_of}
use Rattle.rmm_spec.specs.Cell.{realms_of, recs_of}
use Rattle.rmm_spec.specs.State.{State}
use Rattle.rmm_spec.specs.Step.{outcome}
use Rattle.granule_cells.specs.Changes.{granules_changed}
use Rattle.undo_log.specs.Patches.{Standing, patched}
use Rattle.undo_log.specs.declared.patch.Patch.{Patch}
use Rattle.undo_log.specs.declared.patch.Replaced.{Replaced}
use Rattle.undo_log.specs.declared.patch.Replaced.TheVariants.{Cell, Places, RecCount, Vmid}

-- what an item is put in the place of
abbrev pub is_cell_of : ℕ → Replaced → Bool
is_cell_of granule (Cell other cell) = granule == other
is_cell_of granule _ = false

abbrev pub is_vmid : ℕ → Replaced → Bool
is_vmid vmid (Vmid other realm) = vmid == other
is_vmid vmid _ = false

abbrev pub is_count_of : ℕ → Replaced → Bool
is_count_of rd (RecCount other count) = rd == other
is_count_of rd _ = false

abbrev pub is_places : Replaced → Bool
is_places (Places places) = true
is_places _ = false

-- whether one of them is
abbrev pub has_cell : ℕ → List Replaced → Bool
has_cell granule = list_any (is_cell_of granule)

abbrev pub has_vmid : ℕ → List Replaced → Bool
has_vmid vmid = list_any (is_vmid vmid)

abbrev pub has_count : ℕ → List Replaced → Bool
has_count rd = list_any (is_count_of rd)

abbrev pub has_places : List Replaced → Bool
has_places = list_any is_places

-- a log leads from there where it led before more was noted in it, and it has each cell that it had
pub record LeadsAsBefore (s : Standing) (old new : Patch) : Type 0 where
  pub back : patched new s ≡ patched old s
  pub cells : (granule : ℕ) → IsTrue (has_cell granule old.items.items) → IsTrue (has_cell granule new.items.items)

-- what a change replaces beside the cells is among them: of a realm or a REC that ends, what the cell there names
abbrev pub HasBeside : Standing → Change → List Replaced → Type 0
HasBeside s (RealmMade rd root width level vmid algo) items = IsTrue (has_vmid vmid items)
HasBeside s (RealmDestroyed rd root) items = IfSome (realms_of s.whole.cells rd) (λ realm. IsTrue (has_vmid realm.vmid items))
HasBeside s (RecMade rd rec mpidr flags aux0 aux1) items = IsTrue (has_count rd items)
HasBeside s (RecDestroyed rec aux0 aux1) items = IfSome (recs_of s.whole.cells rec) (λ it. IsTrue (has_count it.owner items))
HasBeside s (RecordsChanged realm (Some rec)) items = IsTrue (has_places items)
HasBeside s (EntriesChanged rd level entries page realm (Some rec)) items = IsTrue (has_places items)
HasBeside s _ items = Unit {0}

-- each of the granules has its cell among them
abbrev pub HasCells : List ℕ → List Replaced → Type 0
HasCells granules items = AllByRecursion (λ granule. IsTrue (has_cell granule items)) granules

-- all that the change replaces is noted, where the table whose entries it changes lies at an address
pub record IsNoted (s : Standing) (at : Option ℕ) (change : Change) (old new : Patch) : Type 0 where
  pub kept : LeadsAsBefore s old new
  pub cells : HasCells (granules_changed at change) new.items.items
  pub beside : HasBeside s change new.items.items

-- a command is answered so
abbrev pub IsAnswer : State → Accepted → Type 0
IsAnswer s accepted = (cpu : ℕ) × (command : Command) × (Ok accepted ≡ outcome s cpu (call_of command))
