-- A state changes by these alone: each puts in, replaces or takes out one thing.
use Rattle.std.specs.Prelude.{ℕ, ◌+◌, ◌/◌, Bool, ◌&&◌, nat_lt, nat_le, ◌==◌, if◌then◌else◌, Some, None, option_map}
use Rattle.rmm_spec.specs.declared.entry.Entry.{Entry}
use Rattle.rmm_spec.specs.declared.entry.Entry.TheVariants.{Unassigned, Assigned, Table, UnassignedNs, AssignedNs}
use Rattle.rmm_spec.specs.declared.tag.Ripas.{Ripas}
use Rattle.rmm_spec.specs.declared.tag.Ripas.TheVariants.{Empty}
use Rattle.rmm_spec.specs.declared.tag.Tag.{Tag}
use Rattle.rmm_spec.specs.State.{RealmRecord, RecRecord, State}

-- a granule's tag is changed, and nothing else
abbrev pub with_tag : State → ℕ → Tag → State
with_tag s address tag = record s { tag = λ other. if other == address then tag else s.tag other }

-- a realm's record is put in or replaced
abbrev pub with_realm : State → ℕ → RealmRecord → State
with_realm s rd realm = record s { realm = λ other. if other == rd then Some realm else s.realm other }

-- a realm is gone, with its tables and leaves
abbrev pub without_realm : State → ℕ → State
without_realm s rd = record s {
  realm = λ other. if other == rd then None else s.realm other;
  table = λ other level number. if other == rd then None else s.table other level number;
  leaf = λ other level number. if other == rd then None else s.leaf other level number;
}

-- a REC's record is put in or replaced
abbrev pub with_rec : State → ℕ → RecRecord → State
with_rec s address rec = record s { rec = λ other. if other == address then Some rec else s.rec other }

abbrev pub without_rec : State → ℕ → State
without_rec s address = record s { rec = λ other. if other == address then None else s.rec other }

-- whether two entries are one: of one realm, at one level, with one number
abbrev pub is_same_entry : ℕ → ℕ → ℕ → ℕ → ℕ → ℕ → Bool
is_same_entry rd level number other other_level other_number = other == rd && other_level == level && other_number == number

-- whether two tables are one: of one realm, at one level, with one number
abbrev pub is_same_table : ℕ → ℕ → ℕ → ℕ → ℕ → ℕ → Bool
is_same_table rd level number other other_level other_number = other == rd && other_level == level && other_number == number

-- a new realm's root: nothing was said of its lower half, and its upper half is the host's
abbrev pub with_root : State → ℕ → ℕ → ℕ → State
with_root s rd level root = record s {
  table = λ other l n. if is_same_table rd level 0 other l n then Some root else s.table other l n;
  leaf = λ other l n. if is_same_table rd level 0 other l (n / 512)
      then Some (if nat_lt n 256 then Unassigned Empty else UnassignedNs) else s.leaf other l n;
}

-- a table is put in where its entry in the table above was, and each of its 512 entries is a copy of that
abbrev pub with_table : State → ℕ → ℕ → ℕ → ℕ → Entry → State
with_table s rd level number granule entry = record s {
  table = λ other l n. if is_same_table rd level number other l n then Some granule else s.table other l n;
  leaf = λ other l n. if is_same_table rd level number other l (n / 512) then Some entry
      else (if is_same_entry rd level number other (l + 1) n then None else s.leaf other l n);
}

-- a table is taken out with its 512 entries, and its entry in the table above is a leaf
abbrev pub without_table : State → ℕ → ℕ → ℕ → Entry → State
without_table s rd level number entry = record s {
  table = λ other l n. if is_same_table rd level number other l n then None else s.table other l n;
  leaf = λ other l n. if is_same_table rd level number other l (n / 512) then None
      else (if is_same_entry rd level number other (l + 1) n then Some entry else s.leaf other l n);
}

-- a leaf is changed
abbrev pub with_leaf : State → ℕ → ℕ → ℕ → Entry → State
with_leaf s rd level number entry = record s {
  leaf = λ other l n. if is_same_entry rd level number other l n then Some entry else s.leaf other l n;
}

-- the entry with another RIPAS, where it has one
abbrev pub entry_with_ripas : Ripas → Entry → Entry
entry_with_ripas ripas (Unassigned old) = Unassigned ripas
entry_with_ripas ripas (Assigned old granule) = Assigned ripas granule
entry_with_ripas ripas (Table granule) = Table granule
entry_with_ripas ripas UnassignedNs = UnassignedNs
entry_with_ripas ripas (AssignedNs page) = AssignedNs page

-- the RIPAS of a level's entries is changed, from the first number up to but not the last
abbrev pub with_ripas : State → ℕ → ℕ → ℕ → ℕ → Ripas → State
with_ripas s rd level first last ripas = record s {
  leaf = λ other l n. if other == rd && l == level && nat_le first n && nat_lt n last
      then option_map (entry_with_ripas ripas) (s.leaf other l n) else s.leaf other l n;
}
