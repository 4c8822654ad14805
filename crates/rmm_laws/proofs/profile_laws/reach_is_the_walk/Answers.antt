use Rattle.spec_lemmas.proofs.WalkLaws.{reach-is_walk}
use Rattle.rmm_laws.proofs.profile_laws.reach_is_the_walk.Goals as goal

pub returns : goal.returns
returns c = reach-is_walk
