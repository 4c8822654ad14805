use Rattle.std.proofs.Common.{◌≡◌, ℕ, refl, arith}
use Rattle.std.proofs.lemmas.Bool.{false≢true}
use Rattle.rmm_spec.specs.declared.entry.Entry.TheVariants.{Assigned}
use Rattle.rmm_spec.specs.declared.tag.Ripas.TheVariants.{Empty}
use Rattle.world_laws.specs.SmallWholes.{table_at, beginning, two_entries}
use Rattle.world_laws.proofs.broken_tables.broken_pages_are_not_well_shaped.Goals as goal

pub returns-clause-no_data : goal.returns-clause-no_data
returns-clause-no_data c = λ places shaped.
    false≢true (shaped.data_granules.named 0x4000 0 0x5000 (table_at 3 0 (beginning (Assigned Empty 0x5000))) Empty refl refl)

pub returns-clause-shared_page : goal.returns-clause-shared_page
returns-clause-shared_page c = λ places shaped.
    let both = table_at 3 0 (two_entries (Assigned Empty 0x5000) (Assigned Empty 0x5000)) in
    let bad : ◌≡◌ {A = ℕ} 0 1 = (shaped.data_granules.apart 0x4000 0x4000 0 1 0x5000 both both Empty Empty refl refl refl refl).1 in omega arith

pub returns-clause-page_of_two_tables : goal.returns-clause-page_of_two_tables
returns-clause-page_of_two_tables c = λ places shaped.
    let first = table_at 3 0 (beginning (Assigned Empty 0x5000)) in
    let second = table_at 3 0x200000 (beginning (Assigned Empty 0x5000)) in
    let bad : ◌≡◌ {A = ℕ} 0x4000 0x6000 =
    (shaped.data_granules.apart 0x4000 0x6000 0 0 0x5000 first second Empty Empty refl refl refl refl).0 in omega arith
