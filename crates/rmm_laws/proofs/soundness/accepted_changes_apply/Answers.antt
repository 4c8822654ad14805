use Rattle.rmm_laws.proofs.Runs.{done_applies, reached_applies}
use Rattle.rmm_laws.proofs.soundness.accepted_changes_apply.Goals as goal

pub returns-clause-done : goal.returns-clause-done
returns-clause-done c = done_applies

pub returns-clause-reached : goal.returns-clause-reached
returns-clause-reached c = reached_applies
