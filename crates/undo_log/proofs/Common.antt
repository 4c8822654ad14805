-- The words of the definitions, and the laws of other crates, that proofs here cite in more than one file.
pub use Rattle.std.proofs.Common.{Bool, IsTrue, List, None, Ok, Option, Some, [], ap, arith, false, if◌then◌else◌, inl, inr, is_some, length, refl, slice_get, slice_index_or, subst, subst₂, suc, sym, true, zero, ℕ, ◌*◌, ◌++◌, ◌+◌, ◌-◌, ◌<◌, ◌==◌, ◌||◌, ◌∙◌, ◌∷◌, ◌≡◌, ◌≤◌}
pub use Rattle.std.proofs.lemmas.Bool.{eqb-true}
pub use Rattle.std.proofs.lemmas.Option.{same_Some}
unfoldable pub use Rattle.rmm_spec.specs.{Change.changed, Flat.flat_state, Lookup.is_granule}
pub use Rattle.rmm_spec.specs.Applicable.{CanApply}
pub use Rattle.rmm_spec.specs.Cell.{put}
pub use Rattle.rmm_spec.specs.HistoryText.{Config}
pub use Rattle.rmm_spec.specs.State.{RealmRecord}
pub use Rattle.rmi_view.specs.Seen.{command_seen, reply_seen}
pub use Rattle.lemmas.proofs.Tests.{both_ways}
pub use Rattle.rmm_laws.proofs.Runs.{done_applies, reached_applies}
pub use Rattle.rmm_laws.proofs.Replays.{is_reached-reached}
pub use Rattle.granule_cells.specs.Seen.{cell_of}
unfoldable pub use Rattle.spec_machine.specs.{Whole.cells_of, Whole.places_of, Whole.state_in}
pub use Rattle.spec_machine.specs.Whole.{config_of, whole_of}
pub use Rattle.spec_machine.specs.View.{state_of}
pub use Rattle.spec_machine.specs.declared.{cell_list.CellList.CellList}
