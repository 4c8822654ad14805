-- What has a tag is a granule; and what is lent or taken back holds nothing.
use Rattle.spec_machine.proofs.Common.{◌<◌, ◌==◌, ◌≡◌, Granules, IsTrue, ap, arith, cells_of, eqb-true, flat_state, inl, inr, is_granule, refl, state_in, ℕ}
use Rattle.std.proofs.lemmas.Bool.{and_parts}
use Rattle.rmm_spec.specs.declared.tag.Tag.{Tag}
use Rattle.rmm_spec.specs.declared.tag.Tag.TheVariants as tags
use Rattle.rmm_spec.specs.declared.change.TagChange.{TagChange}
use Rattle.rmm_spec.specs.Applicable.{CanRetag}
use Rattle.rmm_spec.specs.Cell as spec
use Rattle.rmm_spec.specs.Lookup.{has_tag, tag_number}
use Rattle.granule_cells.specs.declared.cell.Cell.{Cell}
use Rattle.granule_cells.specs.declared.cell.Cell.TheVariants.{Undelegated, Delegated, Rd, Rec, RecAux, Data, Rtt}
use Rattle.granule_cells.specs.Seen.{cell_of}
use Rattle.spec_lemmas.proofs.TagLaws.{granule_from_tag}
use Rattle.spec_machine.specs.Whole.{count_of}

pub granule_tagged : (g : Granules) (address : ℕ) (tag : Tag) → IsTrue (has_tag (state_in g) address tag) → IsTrue (is_granule (count_of g) address)
unfolding state_in flat_state
granule_tagged g address tag has = granule_from_tag (state_in g) address tag has

-- its cell has the tag
number_tagged : (g : Granules) (address : ℕ) (tag : Tag) → IsTrue (has_tag (state_in g) address tag)
    → tag_number (spec.tag_of (cells_of g.list address)) ≡ tag_number tag
unfolding state_in flat_state has_tag
number_tagged g address tag has =
    let number : ℕ = tag_number (spec.tag_of (cells_of g.list address)) in
    eqb-true number (tag_number tag) (and_parts (is_granule (count_of g) address) (number == tag_number tag) has).1

-- the tags of the two that are lent and taken back come first
other-number : (c : Cell) → (c ≡ Undelegated → ⊥) → (c ≡ Delegated → ⊥) → 1 < tag_number (spec.tag_of (cell_of c))
other-number Undelegated apart other = absurd (apart refl)
other-number Delegated apart other = absurd (other refl)
other-number (Rd realm) apart other = omega arith
other-number (Rec rec) apart other = omega arith
other-number RecAux apart other = omega arith
other-number Data apart other = omega arith
other-number (Rtt table) apart other = omega arith

pub lent-bare : (g : Granules) (change : TagChange) (c : Cell) → CanRetag (state_in g) change → cell_of c ≡ cells_of g.list change.granule
    → (c ≡ Undelegated → ⊥) → (c ≡ Delegated → ⊥) → ⊥
lent-bare g change c can is apart other =
    let number = ap (λ cell. tag_number (spec.tag_of cell)) is in
    elim can [
      | inl lent ↦ omega (arith, other-number c apart other, number, number_tagged g change.granule tags.Undelegated lent.0)
      | inr back ↦ omega (arith, other-number c apart other, number, number_tagged g change.granule tags.Delegated back.0)
    ]
