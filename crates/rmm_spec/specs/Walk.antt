-- Translation tables: what an entry of each level covers, and the walk to the deepest table that covers an address.
-- After DEN0137 (RTT walk), with granules of 4096 bytes, tables of 512 entries, and levels 0 to 3.
use Rattle.std.specs.Prelude.{◌≡◌, ℕ, zero, suc, ◌+◌, ◌-◌, ◌*◌, ◌/◌, ◌%◌, ◌^◌, ◌<◌, ◌≤◌, Bool, true, false, not, ◌&&◌, ◌||◌, nat_lt, ◌==◌, if◌then◌else◌, Option, Some, None, is_some, unwrap_or}
use Rattle.rmm_spec.specs.declared.entry.Entry.{Entry}
use Rattle.rmm_spec.specs.declared.entry.EntryTest.{EntryTest}
use Rattle.rmm_spec.specs.declared.entry.EntryTest.TheVariants.{Live, Link, Unlike}
use Rattle.rmm_spec.specs.declared.entry.Entry.TheVariants.{Unassigned, Assigned, Table, UnassignedNs, AssignedNs}
use Rattle.rmm_spec.specs.declared.tag.Ripas.{Ripas}
use Rattle.rmm_spec.specs.declared.tag.Ripas.TheVariants.{Empty, Ram, Destroyed}
use Rattle.rmm_spec.specs.declared.walked.Walked.{Walked}
use Rattle.rmm_spec.specs.State.{State, RealmRecord}
use Rattle.rmm_spec.specs.Lookup.{any_below, ripas_number}

-- how many bytes an entry of the level covers: a page at level 3, and 512 times as many at each level above
unfoldable pub entry_size : ℕ → ℕ
entry_size level = 2 ^ (12 + 9 * (3 - level))

-- how many bytes a table of the level covers: as many as 512 of its entries
unfoldable pub table_size : ℕ → ℕ
table_size level = 2 ^ (12 + 9 * (4 - level))

-- the number of the level's entry for the address
unfoldable pub entry_number : ℕ → ℕ → ℕ
entry_number level ipa = ipa / entry_size level

-- the number of the level's table for the address
unfoldable pub table_number : ℕ → ℕ → ℕ
table_number level ipa = ipa / table_size level

-- the bytes of a realm's address space, and of its protected lower half
abbrev pub full : RealmRecord → ℕ
full realm = 2 ^ realm.width

abbrev pub half : RealmRecord → ℕ
half realm = 2 ^ (realm.width - 1)

-- whether a number is a multiple of another, which isn't 0
abbrev pub is_multiple : ℕ → ℕ → Bool
is_multiple n unit = n % unit == 0

-- whether a number is a page's address in the protected half
abbrev pub is_protected : RealmRecord → ℕ → Bool
is_protected realm ipa = is_multiple ipa 4096 && nat_lt ipa (half realm)

-- ---- entries

abbrev pub is_ram : Ripas → Bool
is_ram Ram = true
is_ram Empty = false
is_ram Destroyed = false

abbrev pub is_table : Entry → Bool
is_table (Table granule) = true
is_table (Unassigned ripas) = false
is_table (Assigned ripas granule) = false
is_table UnassignedNs = false
is_table (AssignedNs page) = false

abbrev pub is_unassigned : Entry → Bool
is_unassigned (Unassigned ripas) = true
is_unassigned (Assigned ripas granule) = false
is_unassigned (Table granule) = false
is_unassigned UnassignedNs = false
is_unassigned (AssignedNs page) = false

abbrev pub is_assigned : Entry → Bool
is_assigned (Assigned ripas granule) = true
is_assigned (Unassigned ripas) = false
is_assigned (Table granule) = false
is_assigned UnassignedNs = false
is_assigned (AssignedNs page) = false

abbrev pub is_unassigned_ns : Entry → Bool
is_unassigned_ns UnassignedNs = true
is_unassigned_ns (Unassigned ripas) = false
is_unassigned_ns (Assigned ripas granule) = false
is_unassigned_ns (Table granule) = false
is_unassigned_ns (AssignedNs page) = false

abbrev pub is_assigned_ns : Entry → Bool
is_assigned_ns (AssignedNs page) = true
is_assigned_ns (Unassigned ripas) = false
is_assigned_ns (Assigned ripas granule) = false
is_assigned_ns (Table granule) = false
is_assigned_ns UnassignedNs = false

-- whether an entry keeps its table in use
abbrev pub is_live : Entry → Bool
is_live entry = is_assigned entry || is_assigned_ns entry || is_table entry

-- whether the second entry isn't unassigned as the first is: of the same half, and with the same RIPAS
abbrev pub is_unlike : Entry → Entry → Bool
is_unlike (Unassigned ripas) (Unassigned other) = not (ripas_number ripas == ripas_number other)
is_unlike UnassignedNs UnassignedNs = false
is_unlike _ _ = true

-- whether an entry is one that is looked for
abbrev pub passes : EntryTest → Entry → Bool
passes Live entry = is_live entry
passes Link entry = is_table entry
passes (Unlike first) entry = is_unlike first entry

-- the granule or page that an entry names, and 0 where it names none
abbrev pub entry_address : Entry → ℕ
entry_address (Assigned ripas granule) = granule
entry_address (Table granule) = granule
entry_address (AssignedNs page) = page
entry_address (Unassigned ripas) = 0
entry_address UnassignedNs = 0

-- an entry's RIPAS, and EMPTY where it has none
abbrev pub entry_ripas : Entry → Ripas
entry_ripas (Unassigned ripas) = ripas
entry_ripas (Assigned ripas granule) = ripas
entry_ripas (Table granule) = Empty
entry_ripas UnassignedNs = Empty
entry_ripas (AssignedNs page) = Empty

-- how a reply tells an entry: 0 unassigned, 1 assigned, 2 a table
abbrev pub entry_state : Entry → ℕ
entry_state (Unassigned ripas) = 0
entry_state UnassignedNs = 0
entry_state (Assigned ripas granule) = 1
entry_state (AssignedNs page) = 1
entry_state (Table granule) = 2

-- ---- the walk

-- an entry links to the table below it, if there is one, and is its leaf otherwise; a leaf is no link
abbrev pub linked_entry : Option ℕ → Option Entry → Entry
linked_entry (Some granule) leaf = Table granule
linked_entry None (Some leaf) = if is_table leaf then Unassigned Empty else leaf
linked_entry None None = Unassigned Empty

-- the entry of that number at the level; below level 3 are no tables
unfoldable pub entry_at : State → ℕ → ℕ → ℕ → Entry
entry_at s rd level number =
    linked_entry (if nat_lt level 3 then s.table rd (level + 1) number else None) (s.leaf rd level number)

-- the level's entry for the address
abbrev pub entry_for : State → ℕ → ℕ → ℕ → Entry
entry_for s rd level ipa = entry_at s rd level (entry_number level ipa)

-- the greatest level up to max at which a table of the realm covers the address
unfoldable pub reach : State → ℕ → ℕ → ℕ → ℕ
reach s rd ipa zero = 0
reach s rd ipa (suc l) = if is_some (s.table rd (suc l) (table_number (suc l) ipa)) then suc l else reach s rd ipa l

-- where the walk for the address up to max ends
abbrev pub walk : State → ℕ → ℕ → ℕ → Walked
walk s rd ipa max =
    let level = reach s rd ipa max in
    record {
      level = level;
      granule = unwrap_or (s.table rd level (table_number level ipa)) 0;
      entry = entry_for s rd level ipa;
    }

-- The walk for the address up to max ends at a table, of which this is the level, the granule and the entry.
pub record IsWalk (s : State) (rd ipa max level granule : ℕ) (entry : Entry) : Type 0 where
  pub within : level ≤ max
  pub is_table : s.table rd level (table_number level ipa) ≡ Some granule
  pub deepest : (deeper : ℕ) → level < deeper → deeper ≤ max → s.table rd deeper (table_number deeper ipa) ≡ None
  pub is_entry : entry ≡ entry_for s rd level ipa

-- whether a table of that number at the level has an entry that is looked for
unfoldable pub has_entry : State → ℕ → ℕ → ℕ → EntryTest → Bool
has_entry s rd level number test = any_below 512 (λ k. passes test (entry_at s rd level (512 * number + k)))

-- whether it has an entry that keeps it in use
abbrev pub is_in_use : State → ℕ → ℕ → ℕ → Bool
is_in_use s rd level number = has_entry s rd level number Live

-- whether it links to a table below it
abbrev pub has_link : State → ℕ → ℕ → ℕ → Bool
has_link s rd level number = has_entry s rd level number Link
