-- The words of the definitions, and the laws of other crates, that proofs here cite in more than one file.
pub use Rattle.std.proofs.Common.{◌&&◌, ◌*◌, ◌+◌, ◌-◌, ◌/◌, ◌<◌, ◌==◌, ◌∙◌, ◌≡◌, ◌≤◌, Bool, IsTrue, None, Option, Some, ap, arith, false, if◌then◌else◌, inl, inr, is_some, nat_lt, refl, subst, suc, sym, true, zero, ℕ}
pub use Rattle.std.proofs.lemmas.Bool.{and_parts, eq-eqb, eqb-true, false_from_ne_true}
unfoldable pub use Rattle.rmm_spec.specs.{Lookup.has_tag, Lookup.realm_at, Lookup.rec_at, Walk.entry_at}
pub use Rattle.rmm_spec.specs.Lookup.{runs_on}
pub use Rattle.rmm_spec.specs.Sound.{IsLeafOf, IsRequest, IsSound}
pub use Rattle.rmm_spec.specs.State.{RealmRecord, RecRecord, Request, State}
pub use Rattle.rmm_spec.specs.Update.{with_tag}
pub use Rattle.rmm_spec.specs.Walk.{is_table}
pub use Rattle.rmm_spec.specs.declared.{entry.Entry.Entry, entry.Entry.TheVariants.Assigned, entry.Entry.TheVariants.Unassigned, entry.Entry.TheVariants.UnassignedNs, tag.Ripas.Ripas, tag.Tag.Tag, tag.Tag.TheVariants.Data, tag.Tag.TheVariants.Rd, tag.Tag.TheVariants.Rec, tag.Tag.TheVariants.RecAux, tag.Tag.TheVariants.Rtt, tag.Tag.TheVariants.Undelegated}
pub use Rattle.lemmas.proofs.Tests.{both_ways}
pub use Rattle.spec_lemmas.proofs.TagLaws.{granule_from_tag, tag-has_tag}
