-- What rows and changes read of a state is there. `Lookup` and `Walk` say what is read where a realm, a REC, a request, an
-- entry or a table is missing; in a state that has all of this, none of that is read, but for the base 0 that REC_ENTER
-- reports of a REC that asked for nothing. This project's own.
use Rattle.std.specs.Prelude.{◌≡◌, ℕ, suc, ◌+◌, ◌*◌, ◌/◌, ◌<◌, ◌≤◌, false, ◌⊎◌, IsTrue, length, Some, is_some}
use Rattle.rmm_spec.specs.declared.entry.Entry.{Entry}
use Rattle.rmm_spec.specs.declared.entry.Entry.TheVariants.{Table}
use Rattle.rmm_spec.specs.declared.tag.Tag.TheVariants.{Rd, Rec, RecAux}
use Rattle.rmm_spec.specs.Lookup.{has_tag, runs_on, is_inside, rec_inside}
use Rattle.rmm_spec.specs.Sound.{has_aux}
use Rattle.rmm_spec.specs.State.{State, RealmRecord, RecRecord, RipasChange}
use Rattle.rmm_spec.specs.Walk.{table_number, full, is_table, entry_at, reach}

-- ---- realms

-- An RD has a realm, and the realm has the four measurements that MEASUREMENT_READ may ask for beside the first.
pub record HasRealms (s : State) : Type 0 where
  pub realms : (rd : ℕ) → IsTrue (has_tag s rd Rd) → IsTrue (is_some (s.realm rd))
  pub measured : (rd : ℕ) (r : RealmRecord) → s.realm rd ≡ Some r → length r.rems ≡ 4

-- ---- RECs

-- the granule is an auxiliary granule of the REC, and of no other
pub record IsAuxOf (s : State) (granule rec : ℕ) : Type 0 where
  pub is : IsTrue (has_aux granule (s.rec rec))
  pub alone : (other : ℕ) → IsTrue (has_aux granule (s.rec other)) → other ≡ rec

-- A REC granule has a REC of a realm that is there, and a REC_AUX granule is one REC's. Where a CPU is inside a REC, the one
-- that is read runs on it, and no other does. A REC that is to leave for a change of RIPAS has a request.
pub record HasRecs (s : State) : Type 0 where
  pub recs : (rec : ℕ) → IsTrue (has_tag s rec Rec) → (c : RecRecord) × (s.rec rec ≡ Some c) × IsTrue (is_some (s.realm c.owner))
  pub auxes : (granule : ℕ) → IsTrue (has_tag s granule RecAux) → (rec : ℕ) × IsAuxOf s granule rec
  pub inside : (cpu : ℕ) → IsTrue (is_inside s cpu) → IsTrue (runs_on cpu (s.rec (rec_inside s cpu)))
  pub alone : (cpu rec other : ℕ) → IsTrue (runs_on cpu (s.rec rec)) → IsTrue (runs_on cpu (s.rec other)) → rec ≡ other
  pub asked : (rec : ℕ) (c : RecRecord) → s.rec rec ≡ Some c → c.pending ≡ Some RipasChange → IsTrue (is_some c.request)

-- ---- tables

-- an entry is read as what is there: the link to a table one level down, or a leaf, which is no link
abbrev pub HasEntry : State → ℕ → ℕ → ℕ → Type 0
HasEntry s rd level number =
    ((child : ℕ) × (s.table rd (suc level) number ≡ Some child) × (entry_at s rd level number ≡ Table child))
    ⊎ ((leaf : Entry) × (s.leaf rd level number ≡ Some leaf) × (is_table leaf ≡ false) × (entry_at s rd level number ≡ leaf))

-- A table is of a realm that is there and has all its 512 entries, and one that isn't its realm's root has the entry above
-- that links to it. A walk for an address of the realm's space, up to its start level or below, ends at a table.
pub record HasTables (s : State) : Type 0 where
  pub owned : (rd level number granule : ℕ) → s.table rd level number ≡ Some granule → IsTrue (is_some (s.realm rd))
  pub entries : (rd level number granule k : ℕ) → s.table rd level number ≡ Some granule → k < 512 → HasEntry s rd level (512 * number + k)
  pub linked : (rd level number granule : ℕ) (r : RealmRecord) → s.table rd (suc level) number ≡ Some granule → s.realm rd ≡ Some r
      → r.start_level ≤ level → IsTrue (is_some (s.table rd level (number / 512))) × (entry_at s rd level number ≡ Table granule)
  pub walked : (rd ipa max : ℕ) (r : RealmRecord) → s.realm rd ≡ Some r → ipa < full r → r.start_level ≤ max
      → let level = reach s rd ipa max in IsTrue (is_some (s.table rd level (table_number level ipa)))

-- ---- states

pub record HasWhatRowsRead (s : State) : Type 0 where
  pub realms : HasRealms s
  pub recs : HasRecs s
  pub tables : HasTables s
