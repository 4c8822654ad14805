-- The words of the definitions, and the laws of other crates, that proofs here cite in many files.
pub use Rattle.std.proofs.Common.{Bool, IsTrue, List, None, Option, Some, [], ap, append_assoc, arith, eq-eqb, eqb, eqb-true, false, if◌then◌else◌, inl, inr, is_some, length, map, nat_le, nat_lt, not, refl, subst, suc, sym, true, zero, ℕ, ◌&&◌, ◌*◌, ◌++◌, ◌+◌, ◌-◌, ◌<◌, ◌==◌, ◌||◌, ◌∙◌, ◌∷◌, ◌≡◌, ◌≤◌, ◌⊎◌}
pub use Rattle.std.proofs.lemmas.Bool.{and_from, and_parts, cases_Bool, cases_lt, cases_order, false_from_ne_true, false≢true, ne_eqb, not-true, or_cases, or_left, or_parts, or_right}
pub use Rattle.std.proofs.lemmas.Option.{none-some, same_Some, slice_get_within}
pub use Rattle.std.specs.List.{AllByRecursion, slice_get}
pub use Rattle.std.specs.Prelude.{Err, Ok, Result, is_none, unwrap_or}
pub use Rattle.lemmas.proofs.Elements.{slice_get-append}
pub use Rattle.lemmas.proofs.Tests.{both_ways}
pub use Rattle.rmm_laws.proofs.Cases.{by_address}
pub use Rattle.rmm_laws.proofs.Keeps.{with_records}
pub use Rattle.rmm_laws.proofs.RowLaws.{outcome-leads}
pub use Rattle.rmm_laws.proofs.Searches.{inside_runs, realm_there, rec_there}
pub use Rattle.rmm_laws.proofs.StepLaws.{step-refuses}
pub use Rattle.rmm_spec.specs.Applicable.{CanApply}
pub use Rattle.rmm_spec.specs.Call.{call_of}
unfoldable pub use Rattle.rmm_spec.specs.Call.{class_of}
pub use Rattle.rmm_spec.specs.Change.{new_rec, with_realm_change, with_rec_change, with_tag_change}
unfoldable pub use Rattle.rmm_spec.specs.Change.{changed, realm_updated, rec_updated}
pub use Rattle.rmm_spec.specs.HistoryText.{Config, History, IsHistory}
pub use Rattle.rmm_spec.specs.Linearization.{AreEntriesOf, IsCalled, IsEntryOf, IsFinished, IsLinearization, IsNamed, IsOfItsKind, IsReturned, NamesCall, ReturnsBefore, cpu_named, number_named}
pub use Rattle.rmm_spec.specs.Locks.{is_named}
pub use Rattle.rmm_spec.specs.Lookup.{no_realm, no_rec, request_of, runs_on}
unfoldable pub use Rattle.rmm_spec.specs.Lookup.{has_rec, has_tag, is_inside, is_vmid_used, realm_at, rec_at, rec_inside}
pub use Rattle.rmm_spec.specs.Ownership.{is_accepted}
pub use Rattle.rmm_spec.specs.Rows.{Needed, decided, ok}
pub use Rattle.rmm_spec.specs.Run.{IsRun, JournalEntry}
pub use Rattle.rmm_spec.specs.Sound.{IsSound}
pub use Rattle.rmm_spec.specs.State.{RealmRecord, RecRecord, State}
unfoldable pub use Rattle.rmm_spec.specs.State.{opening}
pub use Rattle.rmm_spec.specs.Step.{CarriesOut, Step, is_placed, misplacement}
unfoldable pub use Rattle.rmm_spec.specs.Step.{answer_of, outcome}
pub use Rattle.rmm_spec.specs.Step.Front.{with_front}
pub use Rattle.rmm_spec.specs.Step.Ripas.{IsReached}
unfoldable pub use Rattle.rmm_spec.specs.Step.Ripas.{reached_change}
unfoldable pub use Rattle.rmm_spec.specs.Step.Terms.{named, words_of}
unfoldable pub use Rattle.rmm_spec.specs.Walk.{entry_at, entry_number, reach}
pub use Rattle.rmm_spec.specs.declared.accepted.Accepted.{Accepted}
pub use Rattle.rmm_spec.specs.declared.accepted.Accepted.TheVariants.{Done, Reaches}
pub use Rattle.rmm_spec.specs.declared.call.Call.{Call}
pub use Rattle.rmm_spec.specs.declared.change.Change.{Change}
pub use Rattle.rmm_spec.specs.declared.change.Change.TheVariants.{EntriesChanged, RealmDestroyed, RealmMade, RecDestroyed, RecMade, RecordsChanged, Retagged, TableDestroyed, TableMade, Unchanged}
pub use Rattle.rmm_spec.specs.declared.change.EntryChange.TheVariants.{Replaced, RipasSet}
pub use Rattle.rmm_spec.specs.declared.change.RealmChange.{RealmChange}
pub use Rattle.rmm_spec.specs.declared.change.RecChange.{RecChange}
pub use Rattle.rmm_spec.specs.declared.change.TagChange.{TagChange}
pub use Rattle.rmm_spec.specs.declared.command.Command.{Command}
pub use Rattle.rmm_spec.specs.declared.entry.Entry.{Entry}
pub use Rattle.rmm_spec.specs.declared.event.Event.{Event}
pub use Rattle.rmm_spec.specs.declared.event.Event.TheVariants.{Called, Returned}
pub use Rattle.rmm_spec.specs.declared.line.Line.{Line}
pub use Rattle.rmm_spec.specs.declared.line.Line.TheVariants.{Keep, Unfinished}
pub use Rattle.rmm_spec.specs.declared.measurement.Measurement.{Measurement}
pub use Rattle.rmm_spec.specs.declared.refusal.Refusal.{Refusal}
pub use Rattle.rmm_spec.specs.declared.refusal.Refusal.TheVariants.{Misplaced}
pub use Rattle.rmm_spec.specs.declared.reply.Reply.{Reply}
pub use Rattle.rmm_spec.specs.declared.tag.Tag.{Tag}
pub use Rattle.rmm_spec.specs.declared.tag.Tag.TheVariants.{Delegated, Rd, Rec, RecAux, Rtt, Undelegated}
unfoldable pub use Rattle.spec_lemmas.proofs.Behind.{behind}
pub use Rattle.spec_lemmas.proofs.TagLaws.{tag-has_tag}
pub use Rattle.verdict_laws.specs.Apart.{is_part}
unfoldable pub use Rattle.verdict_laws.specs.Apart.{lent}
pub use Rattle.verdict_laws.specs.Facts.{holds}
pub use Rattle.verdict_laws.specs.Order.{LeadsNowhere}
unfoldable pub use Rattle.verdict_laws.specs.Order.{count_of}
pub use Rattle.verdict_laws.specs.Registers.{Register}
pub use Rattle.verdict_laws.specs.Separate.{is_local}
pub use Rattle.verdict_laws.specs.Slices.{unused_tag}
pub use Rattle.verdict_laws.specs.declared.facts.Fact.{Fact}
pub use Rattle.spec_lemmas.proofs.Calls.{HasOnePlaces-from_history}
