use Rattle.rmm_laws.proofs.Common.{◌∷◌, [], ok, opening, script_config}
use Rattle.rmm_spec.specs.declared.function_id.FunctionId.TheVariants.{DataCreateUnknown}
use Rattle.rmm_spec.specs.Script.{answered}
use Rattle.rmm_spec.specs.TableScript.{data_granule_mapped_twice}
use Rattle.rmm_laws.proofs.Replays.{no_replay-no_run}
use Rattle.rmm_laws.proofs.RunLaws.{run-snoc}
use Rattle.rmm_laws.proofs.Scripts.{no_runs}
use Rattle.rmm_laws.proofs.profile_laws.a_page_is_given_once.Goals as goal

pub returns : goal.returns
returns c = λ last next run step.
    let entry = answered DataCreateUnknown (0x6000 ∷ 0x5000 ∷ 0 ∷ []) (ok []) in
    no_replay-no_run (opening script_config) _ no_runs.1.1.0 next
    (run-snoc data_granule_mapped_twice entry (opening script_config) last next run step)
