use Rattle.std.proofs.Common.{[], ◌∷◌}
use Rattle.rmm_spec.specs.Script.{script_config, version_two_config, realm_of_algo_1}
use Rattle.rmm_laws.specs.Worked.{worked}
use Rattle.rmm_laws.proofs.Replays.{replayed-runs}
use Rattle.rmm_laws.proofs.Scripts.{all_runs, version_two_runs}
use Rattle.rmm_laws.proofs.profile_laws.worked_scripts_are_runs.Goals as goal

pub returns-clause-version_one : goal.returns-clause-version_one
returns-clause-version_one c = replayed-runs script_config worked all_runs.1

pub returns-clause-version_two : goal.returns-clause-version_two
returns-clause-version_two c = replayed-runs version_two_config (realm_of_algo_1 ∷ []) version_two_runs
