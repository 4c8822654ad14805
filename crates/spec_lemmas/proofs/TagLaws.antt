-- A granule's tag, read and changed.
use Rattle.std.proofs.Common.{◌≡◌, ℕ, ◌==◌, Bool, true, false, if◌then◌else◌, IsTrue, refl, sym, ◌∙◌, ap}
use Rattle.std.proofs.lemmas.Bool.{and_parts, eqb-true, eq-eqb}
use Rattle.std.proofs.lemmas.Bool.Decides.{same_from_decides}
use denote.Enum.Bare.{sameb, same_true, true_same}
use Rattle.rmm_spec.specs.contracts.tag.Tag.{the_type}
use Rattle.rmm_spec.specs.declared.tag.Tag.{Tag}
use Rattle.rmm_spec.specs.declared.tag.Tag.TheVariants.{Undelegated, Delegated, Rd, Rec, RecAux, Data, Rtt}
use Rattle.rmm_spec.specs.State.{State}
use Rattle.rmm_spec.specs.Update.{with_tag}
use Rattle.rmm_spec.specs.Lookup.{tag_number, is_granule, has_tag}

-- the tag that has the number
tag_numbered : ℕ → Tag
tag_numbered n =
    if n == 0 then Undelegated else if n == 1 then Delegated else if n == 2 then Rd else if n == 3 then Rec
    else if n == 4 then RecAux else if n == 5 then Data else Rtt

tag_numbered-tag_number : (tag : Tag) → tag_numbered (tag_number tag) ≡ tag
unfolding tag_numbered
tag_numbered-tag_number Undelegated = refl
tag_numbered-tag_number Delegated = refl
tag_numbered-tag_number Rd = refl
tag_numbered-tag_number Rec = refl
tag_numbered-tag_number RecAux = refl
tag_numbered-tag_number Data = refl
tag_numbered-tag_number Rtt = refl

-- tags with one number are one
pub tag_number-injective : (a b : Tag) → tag_number a ≡ tag_number b → a ≡ b
tag_number-injective a b same = sym (tag_numbered-tag_number a) ∙ ap tag_numbered same ∙ tag_numbered-tag_number b

-- what is asked of a granule's tag holds of it
pub tag-has_tag : (s : State) (address : ℕ) (tag : Tag) → IsTrue (has_tag s address tag) → s.tag address ≡ tag
unfolding has_tag
tag-has_tag s address tag has =
    let parts = and_parts (is_granule s.config.granules address) (tag_number (s.tag address) == tag_number tag) has in
    tag_number-injective (s.tag address) tag (eqb-true (tag_number (s.tag address)) (tag_number tag) parts.1)

-- what has a tag is a granule; named so that an attribute can cite it
pub granule_from_tag : (s : State) (address : ℕ) (tag : Tag) → IsTrue (has_tag s address tag) → IsTrue (is_granule s.config.granules address)
unfolding has_tag
granule_from_tag s address tag has =
    let parts = and_parts (is_granule s.config.granules address) (tag_number (s.tag address) == tag_number tag) has in parts.0

-- a tag that is changed and changed back, at another address and at its own
tag-restored : (s : State) (address : ℕ) (tag : Tag) (other : ℕ) (b : Bool) → (other == address) ≡ b
    → (if b then s.tag address else if b then tag else s.tag other) ≡ s.tag other
tag-restored s address tag other true same = ap s.tag (sym (eqb-true other address same))
tag-restored s address tag other false apart = refl

-- a tag that is changed and then changed back leaves the state as it was
pub with_tag-restored : (s : State) (address : ℕ) (tag : Tag) → with_tag (with_tag s address tag) address (s.tag address) ≡ s
with_tag-restored s address tag = λ i. record s { tag = λ other. tag-restored s address tag other (other == address) refl i }

-- the program's comparison of two tags is that of their numbers
pub sameb-tag_number : (a b : Tag) → sameb the_type a b ≡ (tag_number a == tag_number b)
sameb-tag_number a b = same_from_decides (sameb the_type a b) (tag_number a == tag_number b)
    (same_true the_type tt a b, true_same the_type a b) (
      λ same. tag_number-injective a b (eqb-true (tag_number a) (tag_number b) same),
      λ same. eq-eqb (tag_number a) (tag_number b) (ap tag_number same),
    )
