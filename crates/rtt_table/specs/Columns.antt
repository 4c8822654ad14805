-- A table's entries in two columns: what each entry is, and the address that it names.
use Rattle.std.specs.Prelude.{◌≡◌, ℕ, List, [], ◌∷◌, map}
use Rattle.rmm_spec.specs.declared.entry.Entry.{Entry}
use Rattle.rmm_spec.specs.declared.entry.Entry.TheVariants as entry
use Rattle.rmm_spec.specs.declared.tag.Ripas.{Ripas}
use Rattle.rmm_spec.specs.declared.tag.Ripas.TheVariants.{Empty, Ram, Destroyed}
use Rattle.rmm_spec.specs.Walk.{entry_address}
use Rattle.rtt_table.specs.declared.kind.Kind.{Kind}
use Rattle.rtt_table.specs.declared.kind.Kind.TheVariants.{UnassignedEmpty, UnassignedRam, UnassignedDestroyed, AssignedEmpty, AssignedRam, AssignedDestroyed, Table, UnassignedNs, AssignedNs}

-- the two kinds that have a RIPAS
abbrev pub unassigned : Ripas → Kind
unassigned Empty = UnassignedEmpty
unassigned Ram = UnassignedRam
unassigned Destroyed = UnassignedDestroyed

abbrev pub assigned : Ripas → Kind
assigned Empty = AssignedEmpty
assigned Ram = AssignedRam
assigned Destroyed = AssignedDestroyed

-- what an entry is
abbrev pub kind_of : Entry → Kind
kind_of (entry.Unassigned ripas) = unassigned ripas
kind_of (entry.Assigned ripas granule) = assigned ripas
kind_of (entry.Table granule) = Table
kind_of entry.UnassignedNs = UnassignedNs
kind_of (entry.AssignedNs page) = AssignedNs

-- the entry of a kind with an address, which some kinds leave out
abbrev pub entry_from : Kind → ℕ → Entry
entry_from UnassignedEmpty address = entry.Unassigned Empty
entry_from UnassignedRam address = entry.Unassigned Ram
entry_from UnassignedDestroyed address = entry.Unassigned Destroyed
entry_from AssignedEmpty address = entry.Assigned Empty address
entry_from AssignedRam address = entry.Assigned Ram address
entry_from AssignedDestroyed address = entry.Assigned Destroyed address
entry_from Table address = entry.Table address
entry_from UnassignedNs address = entry.UnassignedNs
entry_from AssignedNs address = entry.AssignedNs address

-- a kind with another RIPAS, where it has one
abbrev pub kind_with_ripas : Ripas → Kind → Kind
kind_with_ripas ripas AssignedEmpty = assigned ripas
kind_with_ripas ripas AssignedRam = assigned ripas
kind_with_ripas ripas AssignedDestroyed = assigned ripas
kind_with_ripas ripas Table = Table
kind_with_ripas ripas UnassignedNs = UnassignedNs
kind_with_ripas ripas AssignedNs = AssignedNs
kind_with_ripas ripas _ = unassigned ripas

-- the entries that two columns stand for
unfoldable pub joined : List Kind → List ℕ → List Entry
joined [] addresses = []
joined (kind ∷ kinds) [] = []
joined (kind ∷ kinds) (address ∷ addresses) = entry_from kind address ∷ joined kinds addresses

-- two columns are those of the entries, with 0 for the address of each that names none
pub record AreColumns (entries : List Entry) (kinds : List Kind) (addresses : List ℕ) : Type 0 where
  pub of_kinds : kinds ≡ map kind_of entries
  pub of_addresses : addresses ≡ map entry_address entries
