use Rattle.std.proofs.Common.{◌≡◌, ℕ, refl, ap, ◌∙◌, arith}
use Rattle.std.proofs.lemmas.Option.{none-some, same_Some}
use Rattle.rmm_spec.specs.declared.entry.Entry.TheVariants.{Unassigned}
use Rattle.rmm_spec.specs.declared.tag.Ripas.TheVariants.{Empty}
use Rattle.rmm_spec.specs.Walk.{table_size, table_number}
use Rattle.rmm_spec.specs.Table.{TableRecord, place_number}
use Rattle.world_laws.specs.SmallWholes.{new_record, linked_middle, table_behind, second_root}
use Rattle.world_laws.proofs.broken_tables.broken_roots_are_not_well_shaped.Goals as goal

pub returns-clause-rootless : goal.returns-clause-rootless
returns-clause-rootless c = λ places shaped. let held = shaped.tables.roots 0x1000 new_record refl in none-some held.table held.is_held

pub returns-clause-foreign_root : goal.returns-clause-foreign_root
returns-clause-foreign_root c = λ places shaped.
    let held = shaped.tables.roots 0x1000 (record new_record { root = 0x4000 }) refl in
    let bad : ◌≡◌ {A = ℕ} 0x3000 0x1000 =
    ap (λ (t : TableRecord). t.place.rd) (same_Some (second_root (Unassigned Empty)) held.table held.is_held) ∙ held.is_realm in omega arith

pub returns-clause-low_root : goal.returns-clause-low_root
returns-clause-low_root c = λ places shaped.
    let held = shaped.tables.roots 0x1000 (record new_record { root = 0x3000 }) refl in
    let bad : ◌≡◌ {A = ℕ} 2 1 =
    ap (λ (t : TableRecord). t.place.level) (same_Some linked_middle held.table held.is_held) ∙ held.is_level in omega arith

pub returns-clause-later_root : goal.returns-clause-later_root
unfolding place_number table_number table_size
returns-clause-later_root c = λ places shaped.
    let held = shaped.tables.roots 0x1000 (record new_record { root = 0x3000 }) refl in
    let bad : ◌≡◌ {A = ℕ} 1 0 =
    ap (λ (t : TableRecord). place_number t.place) (same_Some table_behind held.table held.is_held) ∙ held.is_number in omega arith
