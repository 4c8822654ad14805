-- What every state that a run reaches keeps: each record, table and leaf stands where the others say, so no default of the
-- rows is read but the base 0 of a REC that asked for nothing. After DEN0137 (attributes of realms, RECs and RTTs); that it
-- is kept is this project's own law.
use Rattle.std.specs.Prelude.{◌≡◌, ℕ, suc, ◌*◌, ◌/◌, ◌<◌, ◌≤◌, Bool, false, ◌&&◌, ◌||◌, ◌==◌, IsTrue, length, Option, Some, None, is_some}
use Rattle.rmm_spec.specs.declared.entry.Entry.{Entry}
use Rattle.rmm_spec.specs.declared.entry.Entry.TheVariants.{Unassigned, Assigned, Table, UnassignedNs, AssignedNs}
use Rattle.rmm_spec.specs.declared.tag.Ripas.{Ripas}
use Rattle.rmm_spec.specs.declared.tag.Tag.TheVariants.{Undelegated, Rd, Rec, RecAux, Data, Rtt}
use Rattle.rmm_spec.specs.State.{State, RealmRecord, RecRecord, Request, Pending, RipasChange}
use Rattle.rmm_spec.specs.Lookup.{is_granule, has_tag, runs_on}
use Rattle.rmm_spec.specs.Walk.{entry_size, table_size, full, half}
use Rattle.rmm_spec.specs.Step.Terms.{is_page, is_space}

-- ---- realms

-- Realms stand exactly at RDs, each in an address space that REALM_CREATE takes, and no two have one VMID.
pub record AreRealms (s : State) : Type 0 where
  pub tagged : (g : ℕ) → is_some (s.realm g) ≡ has_tag s g Rd
  pub spaces : (g : ℕ) (r : RealmRecord) → s.realm g ≡ Some r → IsTrue (is_space r.width r.start_level)
  pub measured : (g : ℕ) (r : RealmRecord) → s.realm g ≡ Some r → length r.rems ≡ 4
  pub apart : (g h : ℕ) (r q : RealmRecord) → s.realm g ≡ Some r → s.realm h ≡ Some q → r.vmid ≡ q.vmid → g ≡ h

-- ---- RECs

-- whether a REC has one of its auxiliary granules there
abbrev pub has_aux : ℕ → Option RecRecord → Bool
has_aux address None = false
has_aux address (Some rec) = rec.aux0 == address || rec.aux1 == address

-- what a REC asks for is a stretch of pages of its realm's protected half
pub record IsRequest (r : RealmRecord) (request : Request) : Type 0 where
  pub pages : IsTrue (is_page request.base && is_page request.top)
  pub ordered : request.base ≤ request.top
  pub protected : request.top ≤ half r

-- RECs stand exactly at their tags, each of a realm and with two auxiliary granules that are its alone; one runs on a CPU.
pub record AreRecs (s : State) : Type 0 where
  pub tagged : (g : ℕ) → is_some (s.rec g) ≡ has_tag s g Rec
  pub owned : (g : ℕ) (c : RecRecord) → s.rec g ≡ Some c → IsTrue (has_tag s c.owner Rd)
  pub aux0 : (g : ℕ) (c : RecRecord) → s.rec g ≡ Some c → IsTrue (has_tag s c.aux0 RecAux)
  pub aux1 : (g : ℕ) (c : RecRecord) → s.rec g ≡ Some c → IsTrue (has_tag s c.aux1 RecAux)
  pub two : (g : ℕ) (c : RecRecord) → s.rec g ≡ Some c → (c.aux0 == c.aux1) ≡ false
  pub apart : (g h x : ℕ) → IsTrue (has_aux x (s.rec g)) → IsTrue (has_aux x (s.rec h)) → g ≡ h
  pub alone : (g h cpu : ℕ) → IsTrue (runs_on cpu (s.rec g)) → IsTrue (runs_on cpu (s.rec h)) → g ≡ h
  pub running : (g : ℕ) (c : RecRecord) (p : Pending) → s.rec g ≡ Some c → c.pending ≡ Some p → IsTrue (is_some c.cpu)
  pub asked : (g : ℕ) (c : RecRecord) → s.rec g ≡ Some c → c.pending ≡ Some RipasChange → IsTrue (is_some c.request)
  pub requests : (g : ℕ) (c : RecRecord) (r : RealmRecord) (q : Request) → s.rec g ≡ Some c → s.realm c.owner ≡ Some r
      → c.request ≡ Some q → IsRequest r q

-- ---- tables

-- a realm has a table there: at a level of its own, below the end of its address space
pub record IsTableOf (r : RealmRecord) (level number : ℕ) : Type 0 where
  pub below_root : r.start_level ≤ level
  pub last : level ≤ 3
  pub inside : number * table_size level < full r

-- Each realm's root is its table at the start level; each other table stands below one, and no granule holds two.
pub record AreTables (s : State) : Type 0 where
  pub roots : (rd : ℕ) (r : RealmRecord) → s.realm rd ≡ Some r → s.table rd r.start_level 0 ≡ Some r.root
  pub tagged : (rd level number granule : ℕ) → s.table rd level number ≡ Some granule → IsTrue (has_tag s granule Rtt)
  pub owned : (rd level number granule : ℕ) → s.table rd level number ≡ Some granule
      → (r : RealmRecord) × (s.realm rd ≡ Some r) × IsTableOf r level number
  pub below : (rd level number granule : ℕ) (r : RealmRecord) → s.table rd (suc level) number ≡ Some granule → s.realm rd ≡ Some r
      → r.start_level ≤ level → IsTrue (is_some (s.table rd level (number / 512)))
  pub apart : (rd level number other other_level other_number granule : ℕ) → s.table rd level number ≡ Some granule
      → s.table other other_level other_number ≡ Some granule → (rd ≡ other) × (level ≡ other_level) × (number ≡ other_number)

-- ---- leaves

-- what an entry is in its half of the address space, and at its level
abbrev pub IsLeafOf : Entry → RealmRecord → ℕ → ℕ → Type 0
IsLeafOf (Unassigned ripas) r level number = number * entry_size level < half r
IsLeafOf (Assigned ripas granule) r level number = (number * entry_size level < half r) × (level ≡ 3)
IsLeafOf (Table granule) r level number = ⊥
IsLeafOf UnassignedNs r level number = half r ≤ number * entry_size level
IsLeafOf (AssignedNs page) r level number = (half r ≤ number * entry_size level) × (level ≡ 3)

-- An entry is a leaf exactly where its table stands and no table below it does; a page is at one entry alone.
pub record AreLeaves (s : State) : Type 0 where
  pub placed : (rd level number : ℕ) (e : Entry) → s.leaf rd level number ≡ Some e → IsTrue (is_some (s.table rd level (number / 512)))
  pub unlinked : (rd level number : ℕ) (e : Entry) → s.leaf rd level number ≡ Some e → s.table rd (suc level) number ≡ None
  pub complete : (rd level number : ℕ) → IsTrue (is_some (s.table rd level (number / 512)))
      → IsTrue (is_some (s.leaf rd level number) || is_some (s.table rd (suc level) number))
  pub kinds : (rd level number : ℕ) (e : Entry) (r : RealmRecord) → s.leaf rd level number ≡ Some e → s.realm rd ≡ Some r
      → IsLeafOf e r level number
  pub pages : (rd level number granule : ℕ) (ripas : Ripas) → s.leaf rd level number ≡ Some (Assigned ripas granule)
      → IsTrue (has_tag s granule Data)
  pub apart : (rd level number other other_level other_number granule : ℕ) (ripas other_ripas : Ripas)
      → s.leaf rd level number ≡ Some (Assigned ripas granule) → s.leaf other other_level other_number ≡ Some (Assigned other_ripas granule)
      → (rd ≡ other) × (level ≡ other_level) × (number ≡ other_number)

-- ---- states

pub record IsSound (s : State) : Type 0 where
  pub outside : (g : ℕ) → is_granule s.config.granules g ≡ false → s.tag g ≡ Undelegated
  pub realms : AreRealms s
  pub recs : AreRecs s
  pub tables : AreTables s
  pub leaves : AreLeaves s
