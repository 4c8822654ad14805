use Rattle.rmm_laws.proofs.Common.{opening, script_config}
use Rattle.rmm_laws.proofs.Replays.{no_replay-no_run}
use Rattle.rmm_laws.proofs.Scripts.{no_runs}
use Rattle.rmm_laws.proofs.profile_laws.longer_stretches_are_no_runs.Goals as goal

pub returns-clause-past_the_table : goal.returns-clause-past_the_table
returns-clause-past_the_table c = no_replay-no_run (opening script_config) _ no_runs.0

pub returns-clause-over_a_page : goal.returns-clause-over_a_page
returns-clause-over_a_page c = no_replay-no_run (opening script_config) _ no_runs.1.0
