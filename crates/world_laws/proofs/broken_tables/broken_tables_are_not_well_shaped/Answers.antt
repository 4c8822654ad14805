use Rattle.std.proofs.Common.{◌≡◌, ℕ, ◌*◌, ◌^◌, ◌<◌, ◌≤◌, [], refl, sym, ap, ◌∙◌, subst, arith}
use Rattle.std.proofs.lemmas.Option.{none-some, same_Some}
use Rattle.rmm_spec.specs.declared.entry.Entry.TheVariants.{Unassigned}
use Rattle.rmm_spec.specs.declared.tag.Ripas.TheVariants.{Empty}
use Rattle.rmm_spec.specs.State.{RealmRecord}
use Rattle.rmm_spec.specs.Walk.{table_size, table_number, full}
use Rattle.rmm_spec.specs.Table.{place_number}
use Rattle.world_laws.specs.SmallWholes.{new_record, new_root, bare_table, high_table, table_behind, second_root}
use Rattle.world_laws.proofs.broken_tables.broken_tables_are_not_well_shaped.Goals as goal

pub returns-clause-homeless : goal.returns-clause-homeless
returns-clause-homeless c = λ places shaped. let of = shaped.tables.placed 0x4000 (second_root (Unassigned Empty)) refl in none-some of.0 of.1

pub returns-clause-too_wide : goal.returns-clause-too_wide
returns-clause-too_wide c = λ places shaped.
    let of = shaped.tables.placed 0x2000 (record new_root { place = record new_root.place { width = 48 } }) refl in
    let bad : ◌≡◌ {A = ℕ} 39 48 = ap (λ (r : RealmRecord). r.width) (same_Some new_record of.0 of.1) ∙ sym of.2.width in omega arith

pub returns-clause-above_root : goal.returns-clause-above_root
returns-clause-above_root c = λ places shaped.
    let of = shaped.tables.placed 0x3000 high_table refl in
    let start : ◌≡◌ {A = ℕ} 1 of.0.start_level = ap (λ (r : RealmRecord). r.start_level) (same_Some new_record of.0 of.1) in
    let bad : of.0.start_level ≤ 0 = of.2.within.below_root in omega arith

pub returns-clause-below_last : goal.returns-clause-below_last
returns-clause-below_last c = λ places shaped.
    let bad : 4 ≤ 3 = (shaped.tables.placed 0x6000 (bare_table 4 0) refl).2.within.last in omega arith

pub returns-clause-behind_space : goal.returns-clause-behind_space
unfolding place_number table_number table_size
returns-clause-behind_space c = λ places shaped.
    let of = shaped.tables.placed 0x3000 table_behind refl in
    let bad : 1 * 2 ^ 39 < 2 ^ 39 =
    subst (λ (r : RealmRecord). place_number table_behind.place * table_size 1 < full r) (sym (same_Some new_record of.0 of.1)) of.2.within.inside in
    omega arith

pub returns-clause-off_base : goal.returns-clause-off_base
unfolding place_number table_number table_size
returns-clause-off_base c = λ places shaped.
    let bad : ◌≡◌ {A = ℕ} 0x1000 0 =
    (shaped.tables.placed 0x2000 (record new_root { place = record new_root.place { base = 0x1000 } }) refl).2.base in
    omega arith

pub returns-clause-empty_table : goal.returns-clause-empty_table
returns-clause-empty_table c = λ places shaped.
    let bad : ◌≡◌ {A = ℕ} 0 512 = shaped.tables.whole 0x2000 (record new_root { entries = [] }) refl in omega arith

pub returns-clause-doubled : goal.returns-clause-doubled
returns-clause-doubled c = λ places shaped.
    let bad : ◌≡◌ {A = ℕ} 0x2000 0x3000 =
    shaped.tables.apart 0x2000 0x3000 new_root refl
    (record { table = new_root; is_held = refl; is_realm = refl; is_level = refl; is_number = refl }) in
    omega arith
