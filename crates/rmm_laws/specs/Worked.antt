-- The worked scripts of version 1, and that scripts are runs.
use Rattle.std.specs.Prelude.{List, [], ◌∷◌}
use Rattle.std.specs.List.{AllByRecursion}
use Rattle.rmm_spec.specs.HistoryText.{Config}
use Rattle.rmm_spec.specs.Run.{JournalEntry, IsRun}
use Rattle.rmm_spec.specs.Script.{life_of_a_rec, off_and_out_of_range, realms_and_recs_come_and_go}
use Rattle.rmm_spec.specs.TableScript.{table_with_data_stays, table_folds, data_granule_mapped_twice, ripas_change_in_two_parts, ripas_change_past_table, ripas_before_a_realm_runs, words_out_of_range, page_of_the_host}
use Rattle.rmm_spec.specs.State.{State, opening}

abbrev pub AreRuns : Config → List (List JournalEntry) → Type 0
AreRuns config scripts = AllByRecursion (λ (entries : List JournalEntry). (last : State) × IsRun (opening config) entries last) scripts

abbrev pub worked : List (List JournalEntry)
worked =
    table_with_data_stays
    ∷ data_granule_mapped_twice
    ∷ ripas_change_in_two_parts
    ∷ ripas_change_past_table
    ∷ life_of_a_rec
    ∷ off_and_out_of_range
    ∷ ripas_before_a_realm_runs
    ∷ realms_and_recs_come_and_go
    ∷ words_out_of_range
    ∷ table_folds
    ∷ page_of_the_host
    ∷ []
