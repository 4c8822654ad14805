-- What all cells, the side table and the CPUs' places keep together: every name in one of them leads to what it names.
-- After DEN0137 (attributes of realms, RECs and RTTs); the side table and the CPUs' places are this project's own.
-- In five groups, each over the views that it reads.
use Rattle.std.specs.Prelude.{◌≡◌, ℕ, zero, suc, ◌+◌, ◌*◌, ◌/◌, ◌%◌, ◌<◌, ◌≤◌, Bool, false, ◌==◌, ◌↔◌, if◌then◌else◌, IsTrue, length, Option, Some, is_some, slice_get}
use Rattle.rmm_spec.specs.HistoryText.{Config}
use Rattle.rmm_spec.specs.declared.entry.Entry.{Entry}
use Rattle.rmm_spec.specs.declared.entry.Entry.TheVariants.{Unassigned, Assigned, Table, UnassignedNs, AssignedNs}
use Rattle.rmm_spec.specs.declared.place.Place.{Place}
use Rattle.rmm_spec.specs.declared.tag.Ripas.{Ripas}
use Rattle.rmm_spec.specs.State.{RealmRecord, RecRecord, Request, Pending, RipasChange}
use Rattle.rmm_spec.specs.Lookup.{is_granule, is_owned_by}
use Rattle.rmm_spec.specs.Walk.{table_size}
use Rattle.rmm_spec.specs.Table.{TableRecord, place_number}
use Rattle.rmm_spec.specs.Step.Terms.{is_space}
use Rattle.rmm_spec.specs.Sound.{IsRequest, IsTableOf, IsLeafOf, has_aux}
use Rattle.rmm_spec.specs.Cell.{Cell, Undelegated, realms_of, recs_of, tables_of, auxes_of, datas_of}

-- What is kept of no granule: the realm that has each VMID, and how many RECs belong to each realm.
pub record Side : Type 0 where
  pub vmids : ℕ → Option ℕ
  pub rec_counts : ℕ → ℕ

-- where a CPU is: in the host's world, or inside a REC of a realm
pub data CpuPlace : Type 0 where
  Outside : CpuPlace
  Inside : ℕ → ℕ → CpuPlace

-- how many numbers below n pass
abbrev pub count_below : ℕ → (ℕ → Bool) → ℕ
count_below zero passes = 0
count_below (suc n) passes = if passes n then suc (count_below n passes) else count_below n passes

-- ---- realms

-- Each realm has an address space that REALM_CREATE takes. The side table has just the VMIDs of the realms, each with its
-- realm, so that no two realms share one; and it counts their RECs.
pub record AreRealmCells (granules : ℕ) (side : Side) (realms : ℕ → Option RealmRecord) (recs : ℕ → Option RecRecord) : Type 0 where
  pub spaces : (rd : ℕ) (realm : RealmRecord) → realms rd ≡ Some realm → IsTrue (is_space realm.width realm.start_level)
  pub measured : (rd : ℕ) (realm : RealmRecord) → realms rd ≡ Some realm → length realm.rems ≡ 4
  pub listed : (rd : ℕ) (realm : RealmRecord) → realms rd ≡ Some realm → side.vmids realm.vmid ≡ Some rd
  pub used : (vmid rd : ℕ) → side.vmids vmid ≡ Some rd → (realm : RealmRecord) × (realms rd ≡ Some realm) × (realm.vmid ≡ vmid)
  pub counted : (rd : ℕ) → side.rec_counts rd ≡ count_below granules (λ k. is_owned_by rd (recs (k * 4096)))

-- ---- tables

-- a granule holds the table of the realm, level and number
pub record HoldsTable (tables : ℕ → Option TableRecord) (granule rd level number : ℕ) : Type 0 where
  pub table : TableRecord
  pub is_held : tables granule ≡ Some table
  pub is_realm : table.place.rd ≡ rd
  pub is_level : table.place.level ≡ level
  pub is_number : place_number table.place ≡ number

-- a table's place is one of its realm's address space, with that space's width and the first address that the table covers
pub record IsPlaceOf (realm : RealmRecord) (place : Place) : Type 0 where
  pub width : place.width ≡ realm.width
  pub within : IsTableOf realm place.level (place_number place)
  pub base : place.base ≡ place_number place * table_size place.level

-- the table above has the link to this one, at the one entry that this one's place names
pub record IsLinked (tables : ℕ → Option TableRecord) (granule rd level number : ℕ) : Type 0 where
  pub parent : ℕ
  pub above : HoldsTable tables parent rd level (number / 512)
  pub link : slice_get above.table.entries (number % 512) ≡ Some (Table granule)

-- what an entry of that number is, in its half of the address space and at its level: no link stands at level 3
abbrev pub FitsPlace : Entry → RealmRecord → ℕ → ℕ → Type 0
FitsPlace (Table granule) realm level number = level < 3
FitsPlace (Unassigned ripas) realm level number = IsLeafOf (Unassigned ripas) realm level number
FitsPlace (Assigned ripas granule) realm level number = IsLeafOf (Assigned ripas granule) realm level number
FitsPlace UnassignedNs realm level number = IsLeafOf UnassignedNs realm level number
FitsPlace (AssignedNs page) realm level number = IsLeafOf (AssignedNs page) realm level number

-- Each realm's root is its table at the start level, each other table hangs from the one entry that its place names, each
-- link leads to the table of the place that it stands for, and no two tables have one place.
pub record AreTableCells (realms : ℕ → Option RealmRecord) (tables : ℕ → Option TableRecord) : Type 0 where
  pub roots : (rd : ℕ) (realm : RealmRecord) → realms rd ≡ Some realm → HoldsTable tables realm.root rd realm.start_level 0
  pub placed : (g : ℕ) (t : TableRecord) → tables g ≡ Some t
      → (realm : RealmRecord) × (realms t.place.rd ≡ Some realm) × IsPlaceOf realm t.place
  pub whole : (g : ℕ) (t : TableRecord) → tables g ≡ Some t → length t.entries ≡ 512
  pub parents : (g above : ℕ) (t : TableRecord) (realm : RealmRecord) → tables g ≡ Some t → realms t.place.rd ≡ Some realm
      → t.place.level ≡ suc above → realm.start_level ≤ above → IsLinked tables g t.place.rd above (place_number t.place)
  pub links : (g i child : ℕ) (t : TableRecord) → tables g ≡ Some t → slice_get t.entries i ≡ Some (Table child)
      → HoldsTable tables child t.place.rd (suc t.place.level) (512 * place_number t.place + i)
  pub apart : (g h : ℕ) (t : TableRecord) → tables g ≡ Some t
      → HoldsTable tables h t.place.rd t.place.level (place_number t.place) → g ≡ h
  pub kinds : (g i : ℕ) (t : TableRecord) (realm : RealmRecord) (e : Entry) → tables g ≡ Some t → realms t.place.rd ≡ Some realm
      → slice_get t.entries i ≡ Some e → FitsPlace e realm t.place.level (512 * place_number t.place + i)

-- ---- data

-- Each protected assigned entry names a DATA granule, and no two entries name one.
pub record AreDataCells (tables : ℕ → Option TableRecord) (datas : ℕ → Bool) : Type 0 where
  pub named : (g i page : ℕ) (t : TableRecord) (ripas : Ripas) → tables g ≡ Some t
      → slice_get t.entries i ≡ Some (Assigned ripas page) → IsTrue (datas page)
  pub apart : (g h i j page : ℕ) (t u : TableRecord) (ripas other : Ripas) → tables g ≡ Some t → tables h ≡ Some u
      → slice_get t.entries i ≡ Some (Assigned ripas page) → slice_get u.entries j ≡ Some (Assigned other page) → (g ≡ h) × (i ≡ j)

-- ---- RECs

-- a REC of that realm runs on the CPU
pub record RunsOn (recs : ℕ → Option RecRecord) (cpu rec rd : ℕ) : Type 0 where
  pub it : RecRecord
  pub is_rec : recs rec ≡ Some it
  pub is_owner : it.owner ≡ rd
  pub is_on : it.cpu ≡ Some cpu

-- Each REC belongs to a realm and has two REC_AUX granules that are its alone, it asks only for pages of its realm's
-- protected half, and waits to leave only while it runs; and a CPU is inside just the REC that runs on it.
pub record AreRecCells (places : ℕ → CpuPlace) (realms : ℕ → Option RealmRecord) (recs : ℕ → Option RecRecord) (auxes : ℕ → Bool) : Type 0 where
  pub owned : (g : ℕ) (c : RecRecord) → recs g ≡ Some c → IsTrue (is_some (realms c.owner))
  pub aux0 : (g : ℕ) (c : RecRecord) → recs g ≡ Some c → IsTrue (auxes c.aux0)
  pub aux1 : (g : ℕ) (c : RecRecord) → recs g ≡ Some c → IsTrue (auxes c.aux1)
  pub two : (g : ℕ) (c : RecRecord) → recs g ≡ Some c → (c.aux0 == c.aux1) ≡ false
  pub apart : (g h x : ℕ) → IsTrue (has_aux x (recs g)) → IsTrue (has_aux x (recs h)) → g ≡ h
  pub requests : (g : ℕ) (c : RecRecord) (realm : RealmRecord) (q : Request) → recs g ≡ Some c → realms c.owner ≡ Some realm
      → c.request ≡ Some q → IsRequest realm q
  pub running : (g : ℕ) (c : RecRecord) (p : Pending) → recs g ≡ Some c → c.pending ≡ Some p → IsTrue (is_some c.cpu)
  pub asked : (g : ℕ) (c : RecRecord) → recs g ≡ Some c → c.pending ≡ Some RipasChange → IsTrue (is_some c.request)
  pub inside : (cpu rec rd : ℕ) → (places cpu ≡ Inside rec rd) ↔ RunsOn recs cpu rec rd

-- ---- elsewhere

-- What is no granule is never delegated.
pub record AreOutside (granules : ℕ) (cells : ℕ → Cell) : Type 0 where
  pub undelegated : (address : ℕ) → is_granule granules address ≡ false → cells address ≡ Undelegated

-- ---- wholes

pub record IsWellShaped (config : Config) (side : Side) (places : ℕ → CpuPlace) (cells : ℕ → Cell) : Type 0 where
  pub realms : AreRealmCells config.granules side (realms_of cells) (recs_of cells)
  pub tables : AreTableCells (realms_of cells) (tables_of cells)
  pub data_granules : AreDataCells (tables_of cells) (datas_of cells)
  pub recs : AreRecCells places (realms_of cells) (recs_of cells) (auxes_of cells)
  pub outside : AreOutside config.granules cells
