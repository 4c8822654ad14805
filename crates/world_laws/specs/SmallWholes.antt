-- Small wholes of eight granules, written out: one realm; with tables down to a page; with a REC; and two realms.
use Rattle.std.specs.Prelude.{ℕ, List, [], ◌∷◌, ◌++◌, map, replicate, Some, None}
use Rattle.rmm_spec.specs.declared.version.Version.TheVariants.{One}
use Rattle.rmm_spec.specs.HistoryText.{Config}
use Rattle.rmm_spec.specs.declared.entry.Entry.{Entry}
use Rattle.rmm_spec.specs.declared.entry.Entry.TheVariants.{Unassigned, Assigned, Table, UnassignedNs}
use Rattle.rmm_spec.specs.declared.function_id.FunctionId.TheVariants as function
use Rattle.rmm_spec.specs.declared.tag.Ripas.TheVariants.{Empty, Ram}
use Rattle.rmm_spec.specs.Change.{new_realm, new_rec}
use Rattle.rmm_spec.specs.Function.{number_of}
use Rattle.rmm_spec.specs.Measure.{rim_extended}
use Rattle.rmm_spec.specs.State.{RealmRecord, RecRecord}
use Rattle.rmm_spec.specs.Table.{TableRecord}
use Rattle.rmm_spec.specs.Cell.{Cell, Undelegated, Delegated, Rd, Rec, RecAux, Data, Rtt, put}
use Rattle.rmm_spec.specs.Shape.{Side, CpuPlace, IsWellShaped}
use Rattle.rmm_spec.specs.Local.{put_all}
use Rattle.world_laws.specs.Replaced.{held_at}

abbrev pub eight_granules : Config
eight_granules = record { granules = 8; cpus = 1; version = One }

-- such cells, with that side table, are not well shaped, wherever the CPUs are
abbrev pub IsBroken : Side → (ℕ → Cell) → Type 0
IsBroken side cells = (places : ℕ → CpuPlace) → IsWellShaped eight_granules side places cells → ⊥

-- ---- one realm

-- all granules but the first are lent
abbrev pub lent : ℕ → Cell
lent =
    put_all (λ _. Undelegated)
    (map (λ granule. held_at granule Delegated) (0x1000 ∷ 0x2000 ∷ 0x3000 ∷ 0x4000 ∷ 0x5000 ∷ 0x6000 ∷ 0x7000 ∷ []))

abbrev pub new_record : RealmRecord
new_record = new_realm 0x2000 39 1 1 0

-- a table of the realm with these entries
abbrev pub table_at : ℕ → ℕ → List Entry → TableRecord
table_at level base entries = record { place = record { rd = 0x1000; level = level; base = base; width = 39 }; entries = entries }

-- a root's entries, with the first of each half
abbrev pub root_entries : Entry → Entry → List Entry
root_entries lower upper = (lower ∷ replicate 255 (Unassigned Empty)) ++ (upper ∷ replicate 255 UnassignedNs)

abbrev pub new_root : TableRecord
new_root = table_at 1 0 (root_entries (Unassigned Empty) UnassignedNs)

-- a realm at 0x1000 with its root at 0x2000
abbrev pub one_realm : ℕ → Cell
one_realm = put (put lent 0x1000 (Rd new_record)) 0x2000 (Rtt new_root)

-- the side table that has its VMID
abbrev pub one_vmid : Side
one_vmid = record { vmids = put (λ _. None) 1 (Some 0x1000); rec_counts = λ _. 0 }

-- the realm with another record, or another root
abbrev pub realm_with : RealmRecord → ℕ → Cell
realm_with realm = put one_realm 0x1000 (Rd realm)

abbrev pub realm_with_root : TableRecord → ℕ → Cell
realm_with_root root = put one_realm 0x2000 (Rtt root)

-- ---- tables below its root

-- the entries of a table below, with the first of them
abbrev pub beginning : Entry → List Entry
beginning entry = entry ∷ replicate 511 (Unassigned Empty)

abbrev pub upper_beginning : Entry → List Entry
upper_beginning entry = entry ∷ replicate 511 UnassignedNs

-- the realm with a root, a table at 0x3000, a page at 0x5000 and another table at 0x4000
abbrev pub tables_and_page : TableRecord → TableRecord → TableRecord → ℕ → Cell
tables_and_page root middle last = put (put (put (realm_with_root root) 0x3000 (Rtt middle)) 0x5000 Data) 0x4000 (Rtt last)

-- the root leads to a table of level 2, and that to one of level 3
abbrev pub linked_root : TableRecord
linked_root = table_at 1 0 (root_entries (Table 0x3000) UnassignedNs)

abbrev pub linked_middle : TableRecord
linked_middle = table_at 2 0 (beginning (Table 0x4000))

-- they do, and the last table begins with this entry
abbrev pub down_to : Entry → ℕ → Cell
down_to entry = tables_and_page linked_root linked_middle (table_at 3 0 (beginning entry))

-- a page of the realm
abbrev pub one_page : ℕ → Cell
one_page = down_to (Assigned Empty 0x5000)

-- the first address of the upper half; and tables as these there
abbrev pub upper_half : ℕ
upper_half = 0x4000000000

abbrev pub upper_down_to : Entry → ℕ → Cell
upper_down_to entry =
    tables_and_page (table_at 1 0 (root_entries (Unassigned Empty) (Table 0x3000))) (table_at 2 upper_half (upper_beginning (Table 0x4000)))
    (table_at 3 upper_half (upper_beginning entry))

-- ---- tables in the wrong place

-- a table below the root that says nothing of its addresses
abbrev pub bare_table : ℕ → ℕ → TableRecord
bare_table level base = table_at level base (beginning (Unassigned Empty))

-- a table of level 0, with entries that fit their halves
abbrev pub high_table : TableRecord
high_table = table_at 0 0 (upper_beginning (Unassigned Empty))

-- a table of the root's level behind the realm's address space
abbrev pub table_behind : TableRecord
table_behind = table_at 1 0x8000000000 (upper_beginning UnassignedNs)

-- a root whose first entry leads to a table, and its second is this one
abbrev pub root_then : Entry → TableRecord
root_then entry = table_at 1 0 (Table 0x3000 ∷ entry ∷ (replicate 254 (Unassigned Empty) ++ replicate 256 UnassignedNs))

-- entries of which the first two are these
abbrev pub two_entries : Entry → Entry → List Entry
two_entries first second = first ∷ second ∷ replicate 510 (Unassigned Empty)

-- ---- two realms

abbrev pub second_record : ℕ → RealmRecord
second_record vmid = new_realm 0x4000 39 1 vmid 0

-- a root of the second realm, with the first of its entries
abbrev pub second_root : Entry → TableRecord
second_root entry = record { place = record { rd = 0x3000; level = 1; base = 0; width = 39 }; entries = root_entries entry UnassignedNs }

-- a second realm at 0x3000 with its root at 0x4000, and this VMID
abbrev pub two_realms : ℕ → ℕ → Cell
two_realms vmid = put (put one_realm 0x3000 (Rd (second_record vmid))) 0x4000 (Rtt (second_root (Unassigned Empty)))

abbrev pub two_vmids : Side
two_vmids = record one_vmid { vmids = put one_vmid.vmids 2 (Some 0x3000) }

-- both roots lead to a table of the first realm
abbrev pub shared_table : ℕ → Cell
shared_table =
    put (put (put (two_realms 2) 0x2000 (Rtt (table_at 1 0 (root_entries (Table 0x5000) UnassignedNs)))) 0x4000 (Rtt (second_root (Table 0x5000))))
    0x5000 (Rtt (bare_table 2 0))

-- ---- one REC

abbrev pub the_rec : RecRecord
the_rec = new_rec 0x1000 0 1 0x4000 0x5000

-- its realm, which has counted and measured it
abbrev pub owner_record : RealmRecord
owner_record = record new_record { next_index = 1; rim = rim_extended new_record.rim (number_of function.RecCreate ∷ 0 ∷ 1 ∷ []) }

-- the realm with this REC at 0x3000, and two auxiliary granules
abbrev pub one_rec : RecRecord → ℕ → Cell
one_rec rec = put (put (put (put one_realm 0x3000 (Rec rec)) 0x4000 RecAux) 0x5000 RecAux) 0x1000 (Rd owner_record)

-- the side table that counts one REC of the realm
abbrev pub one_owned : ℕ → Side
one_owned rd = record one_vmid { rec_counts = put (λ _. 0) rd 1 }

-- a REC that asked for the RIPAS of a stretch
abbrev pub asking : ℕ → ℕ → RecRecord
asking base top = record the_rec { request = Some (record { base = base; top = top; ripas = Ram }) }
