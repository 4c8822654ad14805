-- The words of the definitions, and the laws of other crates, that proofs here cite in more than one file.
pub use Rattle.std.proofs.Common.{◌%◌, ◌*◌, ◌+◌, ◌-◌, ◌/◌, ◌<◌, ◌==◌, ◌∙◌, ◌≡◌, ◌≤◌, Bool, IsTrue, List, None, Option, Some, ap, arith, eq-eqb, eqb-true, false, if◌then◌else◌, inl, inr, length, option_and_then, refl, slice_get, subst, suc, sym, true, zero, ℕ}
pub use Rattle.std.proofs.lemmas.Bool.{false_from_ne_true}
pub use Rattle.std.proofs.lemmas.Option.{none-some, same_Some}
unfoldable pub use Rattle.rmm_spec.specs.{Change.changed, Flat.flat_state, Flat.leaf_in_tables, Flat.table_granule, Lookup.is_granule, Lookup.realm_at, Table.place_number}
pub use Rattle.rmm_spec.specs.Cell.{Cell, Delegated, Rd, Rec, Rtt, put, realm_in, realms_of, rec_in, recs_of, table_in, tables_of, tag_of, tags_of}
pub use Rattle.rmm_spec.specs.HistoryText.{Config}
pub use Rattle.rmm_spec.specs.Shape.{CpuPlace}
pub use Rattle.rmm_spec.specs.Sound.{IsSound}
pub use Rattle.rmm_spec.specs.State.{RealmRecord, RecRecord, State}
pub use Rattle.rmm_spec.specs.Table.{TableRecord}
pub use Rattle.rmm_spec.specs.Update.{is_same_table}
pub use Rattle.rmm_spec.specs.Walk.{is_table}
pub use Rattle.rmm_spec.specs.declared.{entry.Entry.Entry, entry.Entry.TheVariants.Table}
pub use Rattle.lemmas.proofs.Tests.{both_ways}
pub use Rattle.spec_lemmas.proofs.Maps.{put-elsewhere, put-here}
pub use Rattle.rmm_laws.proofs.Cases.{by_address, spot_hit}
pub use Rattle.rmm_laws.proofs.Searches.{realm_there}
unfoldable pub use Rattle.rmm_laws.specs.{Whole.cells_changed, Whole.places_changed, Whole.side_changed}
pub use Rattle.rmm_laws.specs.Whole.{IsShaped, Whole}
pub use Rattle.lemmas.proofs.Options.{value_there}
