use Rattle.rmm_laws.proofs.Common.{opening, script_config}
use Rattle.rmm_laws.proofs.Replays.{replayed-run, no_replay-no_run}
use Rattle.rmm_laws.proofs.Scripts.{all_runs, no_runs}
use Rattle.rmm_laws.proofs.profile_laws.version_one_has_no_sha512.Goals as goal

pub returns-clause-refused : goal.returns-clause-refused
returns-clause-refused c = replayed-run (opening script_config) _ all_runs.0

pub returns-clause-not_accepted : goal.returns-clause-not_accepted
returns-clause-not_accepted c = no_replay-no_run (opening script_config) _ no_runs.1.1.1.0
