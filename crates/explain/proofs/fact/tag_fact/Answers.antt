-- The granule hasn't the tag.
use Rattle.explain.proofs.Common.{refl, state_of}
use Rattle.explain.proofs.Tags.{has_tag-found}
use Rattle.explain.proofs.fact.tag_fact.Goals as goal

pub returns : goal.returns
returns c =
    let s = state_of c.args.machine.now in
    let found = c.found_tag.ensures s c.requires.owners in
    let fails = c.requires.fails in
    (refl, refl, found, λ same. absurd (let holds = has_tag-found s c.args.granule c.args.tag c.found_tag.result found same in cc))
