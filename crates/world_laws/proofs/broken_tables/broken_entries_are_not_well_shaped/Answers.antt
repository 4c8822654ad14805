use Rattle.std.proofs.Common.{◌≡◌, ℕ, ◌*◌, ◌^◌, ◌<◌, ◌≤◌, refl, arith}
use Rattle.rmm_spec.specs.declared.entry.Entry.TheVariants.{Unassigned, Assigned, UnassignedNs, AssignedNs}
use Rattle.rmm_spec.specs.declared.tag.Ripas.TheVariants.{Empty}
use Rattle.rmm_spec.specs.Walk.{entry_size, table_size, table_number}
use Rattle.rmm_spec.specs.Table.{place_number}
use Rattle.world_laws.specs.SmallWholes.{new_record, table_at, root_entries, beginning, upper_beginning, upper_half}
use Rattle.world_laws.proofs.broken_tables.broken_entries_are_not_well_shaped.Goals as goal

pub returns-clause-upper_unassigned : goal.returns-clause-upper_unassigned
unfolding place_number table_number table_size entry_size
returns-clause-upper_unassigned c = λ places shaped.
    let bad : 256 * 2 ^ 30 < 2 ^ 38 =
    shaped.tables.kinds 0x2000 256 (table_at 1 0 (root_entries (Unassigned Empty) (Unassigned Empty))) new_record (Unassigned Empty) refl refl refl in
    omega arith

pub returns-clause-upper_page : goal.returns-clause-upper_page
unfolding place_number table_number table_size entry_size
returns-clause-upper_page c = λ places shaped.
    let bad : 2 ^ 26 * 2 ^ 12 < 2 ^ 38 =
    (shaped.tables.kinds 0x4000 0 (table_at 3 upper_half (upper_beginning (Assigned Empty 0x5000)))
    new_record (Assigned Empty 0x5000) refl refl refl).0 in
    omega arith

pub returns-clause-lower_host : goal.returns-clause-lower_host
unfolding place_number table_number table_size entry_size
returns-clause-lower_host c = λ places shaped.
    let bad : 2 ^ 38 ≤ 0 =
    shaped.tables.kinds 0x2000 0 (table_at 1 0 (root_entries UnassignedNs UnassignedNs)) new_record UnassignedNs refl refl refl in
    omega arith

pub returns-clause-lower_host_page : goal.returns-clause-lower_host_page
unfolding place_number table_number table_size entry_size
returns-clause-lower_host_page c = λ places shaped.
    let bad : 2 ^ 38 ≤ 0 = (shaped.tables.kinds 0x4000 0 (table_at 3 0 (beginning (AssignedNs 0))) new_record (AssignedNs 0) refl refl refl).0 in
    omega arith

pub returns-clause-high_page : goal.returns-clause-high_page
returns-clause-high_page c = λ places shaped.
    let bad : ◌≡◌ {A = ℕ} 1 3 =
    (shaped.tables.kinds 0x2000 0 (table_at 1 0 (root_entries (Assigned Empty 0x5000) UnassignedNs))
    new_record (Assigned Empty 0x5000) refl refl refl).1 in
    omega arith

pub returns-clause-high_host_page : goal.returns-clause-high_host_page
returns-clause-high_host_page c = λ places shaped.
    let bad : ◌≡◌ {A = ℕ} 1 3 =
    (shaped.tables.kinds 0x2000 256 (table_at 1 0 (root_entries (Unassigned Empty) (AssignedNs 0))) new_record (AssignedNs 0) refl refl refl).1 in
    omega arith
