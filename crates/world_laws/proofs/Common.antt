-- The words of the definitions, and the laws of other crates, that proofs here cite in more than one file.
pub use Rattle.std.proofs.Common.{◌&&◌, ◌-◌, ◌/◌, ◌<◌, ◌==◌, ◌||◌, ◌∙◌, ◌∷◌, ◌≡◌, ◌≤◌, ◌⊎◌, Bool, List, None, Option, Some, [], ap, arith, false, if◌then◌else◌, inl, inr, not, refl, subst, suc, sym, true, ℕ}
pub use Rattle.std.proofs.lemmas.Bool.{and_parts, false≢true, not-true}
pub use Rattle.std.specs.Prelude.{IsTrue, is_some}
unfoldable pub use Rattle.rmm_spec.specs.{Flat.flat_state, Lookup.realm_at, Step.Terms.named, Walk.entry_at, Walk.reach}
pub use Rattle.rmm_spec.specs.Cell.{Cell, tables_of}
pub use Rattle.rmm_spec.specs.HistoryText.{Config}
pub use Rattle.rmm_spec.specs.Local.{HeldCell}
pub use Rattle.rmm_spec.specs.Shape.{HoldsTable, Side}
pub use Rattle.rmm_spec.specs.State.{State}
pub use Rattle.rmm_spec.specs.Walk.{entry_for, entry_number, is_table, table_number}
pub use Rattle.rmm_spec.specs.declared.{call.Call.Call, entry.Entry.Entry, entry.Entry.TheVariants.Table}
pub use Rattle.spec_lemmas.proofs.WalkLaws.{reach-le}
pub use Rattle.rmm_laws.proofs.Walked.{table_number-entry}
unfoldable pub use Rattle.world_laws.specs.{SeenState.seen_state, SeenState.table_behind, SeenState.table_placed, Walking.is_walk_held, Walking.way_of}
pub use Rattle.world_laws.specs.Held.{is_held}
pub use Rattle.world_laws.specs.SeenState.{table_held}
pub use Rattle.world_laws.specs.Walking.{Way}
