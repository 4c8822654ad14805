-- Tags of granules.
use Rattle.explain.proofs.Common.{◌∙◌, ◌≡◌, IsTrue, None, Option, Some, State, arith, nat_tests, ℕ}
use Rattle.std.proofs.Common.{◌==◌}
use Rattle.rmm_spec.specs.declared.tag.Tag.{Tag}
use Rattle.rmm_spec.specs.Lookup.{has_tag, tag_number}
use Rattle.explain.specs.Facts.{IsFound}

is_same : (tag : Tag) → IsTrue (tag_number tag == tag_number tag)
is_same tag = grind (arith, nat_tests)

-- a granule has the tag that is found
pub has_tag-found : (s : State) (granule : ℕ) (tag : Tag) (found : Option Tag)
    → IsFound s granule found → found ≡ Some tag → IsTrue (has_tag s granule tag)
unfolding has_tag
has_tag-found s granule tag None found same = absurd cc
has_tag-found s granule tag (Some other) found same =
    let e : s.tag granule ≡ tag = found.1 ∙ (let e : other ≡ tag = cc in e) in
    rw (found.0, e) (is_same tag)
