-- Worked scripts, replayed by computing; measurements stay folded.
use Rattle.rmm_laws.proofs.Common.{◌++◌, ◌∷◌, [], changed, false, has_tag, ok, opening, outcome, reached_change, realm_at, rec_at, refl, script_config, true}
use Rattle.std.proofs.Common.{take}
use Rattle.rmm_spec.specs.declared.function_id.FunctionId.TheVariants.{DataCreateUnknown, RealmCreate, RttInitRipas, RttSetRipas}
use Rattle.rmm_spec.specs.declared.reply.Reply.TheVariants as reply
use Rattle.rmm_spec.specs.Call.{call_from, class_of}
use Rattle.rmm_spec.specs.Change.{realm_updated, rec_updated}
use Rattle.rmm_spec.specs.Measure.{first_words, measurement_words, rem_start}
use Rattle.rmm_spec.specs.Function.{number_of}
use Rattle.rmm_spec.specs.Script.{version_two_config, answered, replay, life_of_a_rec, off_and_out_of_range, realms_and_recs_come_and_go, realm_of_algo_1}
use Rattle.rmm_spec.specs.TableScript.{table_with_data_stays, table_folds, data_granule_mapped_twice, ripas_change_in_two_parts, ripas_change_past_table, ripas_before_a_realm_runs, words_out_of_range, page_of_the_host}
use Rattle.rmm_spec.specs.Lookup.{is_granule, is_inside, rec_inside, is_vmid_used, has_rec}
use Rattle.rmm_spec.specs.Walk.{entry_size, table_size, entry_number, table_number, entry_at, reach, has_entry}
use Rattle.rmm_spec.specs.Step.{answer_of, commands}
use Rattle.rmm_spec.specs.Step.Terms.{words_of, named}
use Rattle.rmm_spec.specs.Step.Table.{ripas_left}
use Rattle.rmm_spec.specs.Step.Ripas.{is_reached}
use Rattle.rmm_laws.specs.Worked.{worked}
use Rattle.rmm_laws.proofs.Replays.{AreReplayed}

-- those of version 1, and that in which a realm of version 2 is refused
pub all_runs : AreReplayed script_config true
    ((take 5 realm_of_algo_1 ++ answered RealmCreate (0x1000 ∷ 0x2000 ∷ 39 ∷ 1 ∷ 1 ∷ 1 ∷ []) (reply.Err 1 0) ∷ []) ∷ worked)
unfolding replay opening table_with_data_stays table_folds data_granule_mapped_twice ripas_change_in_two_parts ripas_change_past_table life_of_a_rec
    off_and_out_of_range ripas_before_a_realm_runs realms_and_recs_come_and_go words_out_of_range page_of_the_host realm_of_algo_1 call_from class_of
    changed realm_updated rec_updated is_granule has_tag is_inside rec_inside realm_at rec_at is_vmid_used has_rec entry_size table_size entry_number
    table_number entry_at reach has_entry answer_of outcome words_of named ripas_left is_reached reached_change number_of measurement_words
    first_words rem_start commands
all_runs = (refl, (refl, (refl, (refl, (refl, (refl, (refl, (refl, (refl, (refl, (refl, (refl, tt))))))))))))

pub version_two_runs : AreReplayed version_two_config true (realm_of_algo_1 ∷ [])
unfolding replay opening realm_of_algo_1 call_from class_of changed realm_updated rec_updated is_granule has_tag is_inside rec_inside realm_at rec_at
    is_vmid_used answer_of outcome words_of named measurement_words first_words rem_start commands
version_two_runs = (refl, tt)

-- an end past the table, an end over a page that was given, a page that is given twice, and a realm of version 2
pub no_runs : AreReplayed script_config false
    ((take 15 ripas_change_past_table ++ answered RttSetRipas (0x1000 ∷ 0x5000 ∷ 0x1ff000 ∷ 0x201000 ∷ []) (ok (0x201000 ∷ [])) ∷ [])
    ∷ (take 11 ripas_before_a_realm_runs ++ answered RttInitRipas (0x1000 ∷ 0 ∷ 0x3000 ∷ []) (ok (0x2000 ∷ [])) ∷ [])
    ∷ (data_granule_mapped_twice ++ answered DataCreateUnknown (0x6000 ∷ 0x5000 ∷ 0 ∷ []) (ok []) ∷ [])
    ∷ take 6 realm_of_algo_1
    ∷ [])
unfolding replay opening data_granule_mapped_twice ripas_change_past_table ripas_before_a_realm_runs realm_of_algo_1 call_from class_of changed
    realm_updated rec_updated is_granule has_tag is_inside rec_inside realm_at rec_at is_vmid_used has_rec entry_size table_size entry_number
    table_number entry_at reach has_entry answer_of outcome words_of named ripas_left is_reached reached_change number_of commands
no_runs = (refl, (refl, (refl, (refl, tt))))
