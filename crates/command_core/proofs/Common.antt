-- The words of the definitions, and the laws of other crates, that proofs here cite in more than one file.
pub use Rattle.std.proofs.Common.{◌&&◌, ◌*◌, ◌+◌, ◌-◌, ◌<◌, ◌==◌, ◌||◌, ◌∙◌, ◌∷◌, ◌≡◌, ◌≤◌, Bool, Err, List, None, Ok, Option, Result, Some, [], ap, arith, eq-eqb, eqb-true, false, if◌then◌else◌, inl, inr, length, nat_le, not, refl, subst, suc, sym, true, zero, ℕ}
pub use Rattle.std.proofs.lemmas.Bool.{and_from, and_parts, false≢true, not-true}
pub use Rattle.std.proofs.lemmas.Bool.Decides.{nat_tests}
pub use Rattle.std.proofs.lemmas.Option.{none-some}
pub use Rattle.std.specs.List.{list_all, list_any}
pub use Rattle.std.specs.Prelude.{IsTrue, is_none, is_some}
unfoldable pub use Rattle.rmm_spec.specs.{Call.class_of, Flat.flat_state, Lookup.has_tag, Lookup.is_granule, Lookup.realm_at, Lookup.rec_at, Step.Terms.named, Step.Terms.words_of}
pub use Rattle.rmm_spec.specs.Call.{ByHost, call_of}
pub use Rattle.rmm_spec.specs.Cell.{Rd, Rec, Rtt, Undelegated, realm_in, tag_of}
pub use Rattle.rmm_spec.specs.HistoryText.{Config}
pub use Rattle.rmm_spec.specs.Local.{HeldCell, Hold, granules_held}
pub use Rattle.rmm_spec.specs.Lookup.{any_below, tag_number}
pub use Rattle.rmm_spec.specs.Rows.{Needed}
pub use Rattle.rmm_spec.specs.Shape.{Inside, Outside}
pub use Rattle.rmm_spec.specs.State.{RealmRecord, RecRecord, State}
pub use Rattle.rmm_spec.specs.declared.{accepted.Accepted.Accepted, accepted.Accepted.TheVariants.Done, accepted.Accepted.TheVariants.Reaches, call.Call.Call, change.Change.Change, change.Change.TheVariants.Unchanged, command.Command.Command, refusal.Refusal.Refusal}
pub use Rattle.world_laws.specs.Replaced.{held_at, replaced_all, replaced_cells}
unfoldable pub use Rattle.command_rows.specs.{Answers.outside_answer}
unfoldable pub use Rattle.world_laws.specs.{SeenState.seen_state, SeenState.table_placed, Walking.way_of}
pub use Rattle.world_laws.specs.SeenState.{table_held}
unfoldable pub use Rattle.command_core.specs.{Changed.can_make, Changed.new_cells, Named.has_wrong, Named.words_fit, Settled.is_settled, Unshaped.is_unshaped, Walks.way_taken}
pub use Rattle.command_core.specs.Changed.{IsAnswer, hold_of}
pub use Rattle.command_core.specs.Decided.{misshaped}
pub use Rattle.command_core.specs.Seen.{are_distinct, cell_in, is_held, place_of}
pub use Rattle.command_core.specs.Sides.{are_recs_counted, is_vmid_listed, side_of}
