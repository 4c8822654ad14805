-- The words of the definitions, and the laws of other crates, that proofs here cite in more than one file.
pub use Rattle.std.proofs.Common.{◌&&◌, ◌++◌, ◌+◌, ◌<◌, ◌==◌, ◌∙◌, ◌∷◌, ◌≡◌, ◌⊎◌, Bool, Err, IsTrue, List, None, Ok, Option, Result, Some, [], ap, arith, false, if◌then◌else◌, inl, inr, is_some, refl, subst, suc, sym, true, zero, ℕ}
pub use Rattle.std.proofs.lemmas.Bool.{and_parts, eq-eqb, eqb-true}
unfoldable pub use Rattle.rmm_spec.specs.{Change.changed, Lookup.has_tag, Lookup.realm_at, Lookup.rec_at, State.opening, Step.Ripas.reached_change, Step.outcome}
pub use Rattle.rmm_spec.specs.Ownership.{Claim, claim, is_accepted}
pub use Rattle.rmm_spec.specs.Rows.{ok}
pub use Rattle.rmm_spec.specs.Run.{IsRun, JournalEntry}
pub use Rattle.rmm_spec.specs.Script.{script_config}
pub use Rattle.rmm_spec.specs.Sound.{IsSound}
pub use Rattle.rmm_spec.specs.State.{RealmRecord, State}
pub use Rattle.rmm_spec.specs.Step.{Step}
pub use Rattle.rmm_spec.specs.declared.{accepted.Accepted.Accepted, change.Change.Change, change.Change.TheVariants.RealmDestroyed, change.Change.TheVariants.RecDestroyed, change.TagChange.TagChange, refusal.Refusal.Refusal, reply.Reply.Reply, tag.Tag.Tag, tag.Tag.TheVariants.Delegated, tag.Tag.TheVariants.Rd, tag.Tag.TheVariants.Rtt}
pub use Rattle.lemmas.proofs.Tests.{both_ways}
pub use Rattle.spec_lemmas.proofs.TagLaws.{tag-has_tag}
