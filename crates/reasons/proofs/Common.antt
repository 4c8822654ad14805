-- What proofs on the owners of granules cite in more than one file.
pub use Rattle.std.proofs.Common.{Bool, IsTrue, List, None, Option, Some, [], ap, append_assoc, arith, false, if◌then◌else◌, inl, inr, is_some, length, refl, slice_index_or, slice_set, subst, subst₂, suc, sym, true, vec_capacity, vec_len, zero, ℕ, ◌%◌, ◌*◌, ◌++◌, ◌+◌, ◌-◌, ◌/◌, ◌<◌, ◌==◌, ◌∙◌, ◌∷◌, ◌≡◌, ◌≤◌, ◌⊎◌}
pub use Rattle.std.proofs.lemmas.Bool.{eq-eqb, eqb-false, eqb-true, false_from_ne_true}
pub use Rattle.std.proofs.lemmas.List.{append-nil}
unfoldable pub use Rattle.rmm_spec.specs.{Lookup.is_granule}
pub use Rattle.rmm_spec.specs.Ownership.{IsTied}
pub use Rattle.rmm_spec.specs.Sound.{IsSound}
pub use Rattle.rmm_spec.specs.State.{RecRecord, State}
pub use Rattle.rmm_spec.specs.declared.{tag.Tag.Tag, tag.Tag.TheVariants.Data, tag.Tag.TheVariants.Delegated, tag.Tag.TheVariants.Rd, tag.Tag.TheVariants.Rec, tag.Tag.TheVariants.RecAux, tag.Tag.TheVariants.Rtt, tag.Tag.TheVariants.Undelegated}
pub use Rattle.spec_lemmas.proofs.TagLaws.{granule_from_tag, tag-has_tag}
pub use Rattle.spec_machine.specs.View.{state_of}
unfoldable pub use Rattle.reasons.specs.{Report.owner_rows}
pub use Rattle.reasons.specs.Owners.{IsOf}
pub use Rattle.reasons.specs.Report.{IsOwnerOf}
