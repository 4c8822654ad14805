use Rattle.spec_lemmas.proofs.WalkLaws.{walk_ends_unlinked}
use Rattle.rmm_laws.proofs.profile_laws.walks_end_unlinked.Goals as goal

pub returns : goal.returns
returns c = walk_ends_unlinked
