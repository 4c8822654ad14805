-- The words of the definitions, and the laws of other crates, that proofs here cite in more than one file.
pub use Rattle.std.proofs.Common.{Bool, IsTrue, List, None, Ok, Option, Some, [], ap, arith, false, if◌then◌else◌, inl, inr, is_some, length, map, nat_lt, refl, replicate, slice_get, slice_index_or, subst, subst₂, suc, sym, true, vec_capacity, zero, ℕ, ◌%◌, ◌*◌, ◌++◌, ◌+◌, ◌-◌, ◌/◌, ◌<◌, ◌==◌, ◌^◌, ◌||◌, ◌∙◌, ◌∷◌, ◌≡◌, ◌≤◌}
pub use Rattle.std.proofs.lemmas.Bool.{cases_lt, eqb-true, lt-ltb}
pub use Rattle.std.proofs.lemmas.Option.{none-some, same_Some}
unfoldable pub use Rattle.rmm_spec.specs.{Change.changed, Flat.flat_state, Lookup.has_tag, Lookup.is_granule, Lookup.is_inside, Lookup.rec_at, Ownership.claims_opened, Step.Ripas.reached_change, Walk.entry_at, Walk.entry_number, Walk.table_number, Walk.table_size}
pub use Rattle.rmm_spec.specs.Applicable.{CanApply}
pub use Rattle.rmm_spec.specs.HistoryText.{Config}
pub use Rattle.rmm_spec.specs.Lookup.{rec_inside, tag_number}
pub use Rattle.rmm_spec.specs.Ownership.{Claim}
pub use Rattle.rmm_spec.specs.Rows.{done, ok}
pub use Rattle.rmm_spec.specs.Sound.{IsSound}
pub use Rattle.rmm_spec.specs.State.{RealmRecord, RecRecord, State}
pub use Rattle.rmm_spec.specs.Step.{CarriesOut, outcome}
pub use Rattle.rmm_spec.specs.Step.Ripas.{is_reached, stretch_change}
pub use Rattle.rmm_spec.specs.declared.{accepted.Accepted.TheVariants.Reaches, accepted.Stretch.Stretch, change.Change.Change, change.Change.TheVariants.RealmMade, change.Change.TheVariants.TableMade, entry.Entry.Entry, tag.Tag.TheVariants.Rd, tag.Tag.TheVariants.Rec}
pub use Rattle.rmm_spec.specs.Cell.{put}
pub use Rattle.rmm_spec.specs.Table.{TableRecord}
pub use Rattle.rmi_view.specs.Seen.{command_seen, reply_seen}
pub use Rattle.lemmas.proofs.Tests.{both_ways}
pub use Rattle.rmm_laws.proofs.Runs.{done_applies, reached_applies}
pub use Rattle.rmm_laws.proofs.Searches.{rec_there}
pub use Rattle.rmm_laws.proofs.ChangeWords.{opened}
pub use Rattle.rmm_laws.proofs.Replays.{is_reached-reached, reached-is_reached}
pub use Rattle.spec_machine.proofs.PlaceLaws.{place-within}
pub use Rattle.spec_machine.specs.GranulePlace.{place_in}
unfoldable pub use Rattle.spec_machine.specs.{Whole.cells_of, Whole.places_of, Whole.state_in}
pub use Rattle.spec_machine.specs.Whole.{IsShapedIn, config_of, whole_of}
pub use Rattle.spec_machine.specs.Held.{AreHoused, HeldCells, seen}
pub use Rattle.spec_machine.specs.Memory.{makes_table, takes_memory}
pub use Rattle.spec_machine.specs.View.{state_of}
pub use Rattle.spec_machine.specs.declared.{cell_list.CellList.CellList, granules.Granules.Granules, machine.Machine.Machine, slot.HousedRec.HousedRec, slot.Slot.Slot}
