-- The memory that a change needs.
use Rattle.std.specs.Prelude.{◌≡◌, ℕ, ◌&&◌, IsTrue, Bool, true, false, List, Some, None, IsSomeAnd, replicate}
use Rattle.rmm_spec.specs.declared.entry.Entry.{Entry}
use Rattle.rmm_spec.specs.declared.change.Change.{Change}
use Rattle.rmm_spec.specs.declared.change.Change.TheVariants.{RealmMade, TableMade}
use Rattle.rmm_spec.specs.Change.{new_realm}
use Rattle.rmm_spec.specs.Lookup.{is_hash}
use Rattle.rmm_spec.specs.Step.Terms.{is_space}
use Rattle.rmm_laws.specs.Whole.{root_table}
use Rattle.granule_cells.specs.declared.change_room.Room.{Room}

-- whether the change puts in a table
abbrev pub makes_table : Change → Bool
makes_table (RealmMade rd root width level vmid algo) = true
makes_table (TableMade rd level number rtt entry) = true
makes_table _ = false

-- the room has the entries of the root of the realm that is made, and its descriptor, where the words make one
pub record IsRealmRoom (rd root width level vmid algo : ℕ) (room : Room) : Type 0 where
  pub table : room.table ≡ Some (root_table rd width level).entries
  pub descriptor : IsTrue (is_space width level && is_hash algo) → room.descriptor ≡ Some (new_realm root width level vmid algo)

-- the room is that of a realm that the change makes, or has copies of an entry for a table
abbrev pub IsRoomFor : Change → Room → Type 0
IsRoomFor (RealmMade rd root width level vmid algo) room = IsRealmRoom rd root width level vmid algo room
IsRoomFor (TableMade rd level number rtt entry) room = IsSomeAnd room.table (λ (entries : List Entry). entries ≡ replicate 512 entry)
IsRoomFor _ room = Unit {0}

-- the room has nothing that a change of its kind doesn't put in
abbrev pub HasNoMore : Change → Room → Type 0
HasNoMore (RealmMade rd root width level vmid algo) room = Unit {0}
HasNoMore (TableMade rd level number rtt entry) room = room.descriptor ≡ None
HasNoMore _ room = (room.descriptor ≡ None) × (room.table ≡ None)
