use Rattle.std.proofs.Common.{◌≡◌, ℕ, ◌<◌, refl, ap, ◌∙◌, subst, arith}
use Rattle.std.proofs.lemmas.Option.{none-some, same_Some}
use Rattle.rmm_spec.specs.declared.entry.Entry.TheVariants.{Table}
use Rattle.rmm_spec.specs.Walk.{table_size, table_number}
use Rattle.rmm_spec.specs.Table.{TableRecord, place_number}
use Rattle.rmm_spec.specs.Cell.{tables_of}
use Rattle.world_laws.specs.SmallWholes.{one_realm, new_record, new_root, table_at, beginning, linked_root, bare_table, root_then, second_root}
use Rattle.rmm_spec.specs.Cell.{Cell, Rtt, put, realms_of}
use Rattle.rmm_spec.specs.Shape.{IsLinked}
use Rattle.world_laws.proofs.Links.{no_root_link}
use Rattle.world_laws.proofs.broken_tables.broken_links_are_not_well_shaped.Goals as goal

abbrev orphaned : ℕ → Cell
orphaned = put one_realm 0x3000 (Rtt (bare_table 3 0))

pub returns-clause-orphan : goal.returns-clause-orphan
unfolding place_number table_number table_size
returns-clause-orphan c = λ places shaped.
    let linked = shaped.tables.parents 0x3000 2 (bare_table 3 0) new_record refl refl refl (omega arith) in
    let middle = linked.above in
    let up = shaped.tables.parents linked.parent 1 middle.table new_record middle.is_held
    (ap (realms_of orphaned) middle.is_realm) middle.is_level (omega arith) in
    no_root_link (tables_of orphaned) linked.parent refl (λ h other. shaped.tables.apart 0x2000 h new_root refl other)
    (subst (λ rd. IsLinked (tables_of orphaned) linked.parent rd 1 0) middle.is_realm
    (subst (λ n. IsLinked (tables_of orphaned) linked.parent middle.table.place.rd 1 n) middle.is_number up))

pub returns-clause-unhung : goal.returns-clause-unhung
unfolding place_number table_number table_size
returns-clause-unhung c = λ places shaped.
    no_root_link _ 0x3000 refl (λ h other. shaped.tables.apart 0x2000 h new_root refl other)
    (shaped.tables.parents 0x3000 1 (bare_table 2 0) new_record refl refl refl (omega arith))

pub returns-clause-unlinked : goal.returns-clause-unlinked
returns-clause-unlinked c = λ places shaped.
    let held = shaped.tables.links 0x2000 0 0x3000 linked_root refl refl in none-some held.table held.is_held

pub returns-clause-foreign_link : goal.returns-clause-foreign_link
returns-clause-foreign_link c = λ places shaped.
    let held = shaped.tables.links 0x4000 0 0x5000 (second_root (Table 0x5000)) refl refl in
    let bad : ◌≡◌ {A = ℕ} 0x1000 0x3000 =
    ap (λ (t : TableRecord). t.place.rd) (same_Some (bare_table 2 0) held.table held.is_held) ∙ held.is_realm in omega arith

pub returns-clause-skipping_link : goal.returns-clause-skipping_link
returns-clause-skipping_link c = λ places shaped.
    let held = shaped.tables.links 0x2000 1 0x4000 (root_then (Table 0x4000)) refl refl in
    let bad : ◌≡◌ {A = ℕ} 3 2 =
    ap (λ (t : TableRecord). t.place.level) (same_Some (bare_table 3 0x200000) held.table held.is_held) ∙ held.is_level in omega arith

pub returns-clause-doubled_link : goal.returns-clause-doubled_link
unfolding place_number table_number table_size
returns-clause-doubled_link c = λ places shaped.
    let held = shaped.tables.links 0x2000 1 0x3000 (root_then (Table 0x3000)) refl refl in
    let bad : ◌≡◌ {A = ℕ} 0 1 =
    ap (λ (t : TableRecord). place_number t.place) (same_Some (bare_table 2 0) held.table held.is_held) ∙ held.is_number in omega arith

pub returns-clause-last_link : goal.returns-clause-last_link
returns-clause-last_link c = λ places shaped.
    let bad : 3 < 3 = shaped.tables.kinds 0x4000 0 (table_at 3 0 (beginning (Table 0x6000))) new_record (Table 0x6000) refl refl refl in omega arith
