-- A granule's tag, before and after one is changed.
use Rattle.rmm_laws.proofs.SoundCommon.{◌&&◌, ◌==◌, ◌∙◌, ◌≡◌, IsTrue, State, Tag, ap, both_ways, eq-eqb, false, has_tag, refl, sym, tag-has_tag, with_tag, ℕ}
use Rattle.std.proofs.lemmas.Bool.{and_from, and_right, ne_eqb}
use Rattle.rmm_spec.specs.Lookup.{tag_number, is_granule}
use Rattle.rmm_laws.proofs.Cases.{by_address}

-- the two tags differ
abbrev pub AreOther : Tag → Tag → Type 0
AreOther tag other = (tag_number tag == tag_number other) ≡ false

-- a tag's granule has it
pub has_tag-here : (s : State) (a : ℕ) (tag : Tag) → IsTrue (is_granule s.config.granules a) → IsTrue (has_tag (with_tag s a tag) a tag)
unfolding has_tag
has_tag-here s a tag granule =
    and_from _ _ granule (by_address (λ t. IsTrue (tag_number t == tag_number tag)) a a tag (s.tag a)
    (λ _. eq-eqb (tag_number tag) (tag_number tag) refl) (λ apart. both_ways (eq-eqb a a refl) apart))

-- other granules keep theirs
pub has_tag-elsewhere : (s : State) (a g : ℕ) (tag asked : Tag) → (g == a) ≡ false → has_tag (with_tag s a tag) g asked ≡ has_tag s g asked
unfolding has_tag
has_tag-elsewhere s a g tag asked apart = rw apart refl

-- a tag that the granule neither had nor gets
pub has_tag-beside : (s : State) (a g : ℕ) (tag asked : Tag) → AreOther (s.tag a) asked → AreOther tag asked
    → has_tag (with_tag s a tag) g asked ≡ has_tag s g asked
unfolding has_tag
has_tag-beside s a g tag asked had gets =
    by_address (λ t. (is_granule s.config.granules g && tag_number t == tag_number asked)
    ≡ (is_granule s.config.granules g && tag_number (s.tag g) == tag_number asked)) g a tag (s.tag g)
    (λ same. rw same (rw (had, gets) refl)) (λ _. refl)

-- the granule has the tag no longer
pub has_tag-gone : (s : State) (a : ℕ) (tag asked : Tag) → AreOther tag asked → has_tag (with_tag s a tag) a asked ≡ false
unfolding has_tag
has_tag-gone s a tag asked gets =
    by_address (λ t. (is_granule s.config.granules a && tag_number t == tag_number asked) ≡ false) a a tag (s.tag a)
    (λ _. rw gets (and_right (is_granule s.config.granules a) false refl)) (λ apart. both_ways (eq-eqb a a refl) apart)

-- granules of two tags differ
pub tags_apart : (s : State) (g a : ℕ) (tag other : Tag)
    → IsTrue (has_tag s g tag) → IsTrue (has_tag s a other) → AreOther tag other → (g == a) ≡ false
tags_apart s g a tag other has has_other differ =
    ne_eqb g a (λ same.
    let here : s.tag g ≡ other = rw same (tag-has_tag s a other has_other) in
    let both : tag ≡ other = sym (tag-has_tag s g tag has) ∙ here in
    both_ways (eq-eqb (tag_number tag) (tag_number other) (ap tag_number both)) differ)

-- a granule of one tag has no other
pub has_tag-other : (s : State) (a : ℕ) (tag other : Tag) → IsTrue (has_tag s a tag) → AreOther tag other → has_tag s a other ≡ false
unfolding has_tag
has_tag-other s a tag other has differ = rw (tag-has_tag s a tag has, differ) (and_right (is_granule s.config.granules a) false refl)
