use Rattle.rmm_laws.proofs.Accepts.{sound-root}
use Rattle.rmm_laws.proofs.profile_laws.walks_begin_at_root.Goals as goal
use Rattle.rmm_laws.proofs.Runs.{opened_run_sound}

pub returns : goal.returns
returns c = λ config entries s rd ipa realm run. sound-root s rd ipa realm (opened_run_sound config entries s run)
