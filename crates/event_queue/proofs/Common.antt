-- The words of the definitions, and the laws of other crates, that proofs here cite in more than one file.
pub use Rattle.std.proofs.Common.{◌++◌, ◌+◌, ◌<◌, ◌==◌, ◌∙◌, ◌∷◌, ◌≡◌, ◌≢◌, ◌≤◌, Bool, List, None, Some, [], ap, append-nil, arith, eq-eqb, eqb, false, get_or, if◌then◌else◌, length, length-append, map, ne_eqb, refl, subst, suc, sym, take, true, zero, ℕ, ⊎_elim}
pub use Rattle.std.proofs.lemmas.Bool.{cases_eq, false≢true}
pub use Rattle.std.proofs.lemmas.List.{length_push, nil_from_length}
pub use Rattle.std.proofs.lemmas.List.Elements.{filter-append}
pub use Rattle.std.proofs.lemmas.Option.{none-some, same_Some}
pub use Rattle.std.specs.List.{AllByRecursion}
pub use Rattle.std.specs.Prelude.{slice_get}
pub use mathlib.Core.List.{IsPrefix}
pub use Rattle.crossbeam_queue.specs.Passes.{IsPassOf, view as page_of}
pub use Rattle.rmm_spec.specs.HistoryText.{IsEvent, IsRecord, cpu_of, subhistory_of}
pub use Rattle.rmm_spec.specs.Run.{JournalEntry}
pub use Rattle.rmm_spec.specs.declared.{command.Command.Command, event.Event.Event, event.Event.TheVariants.Called, event.Event.TheVariants.Returned, reply.Reply.Reply}
pub use Rattle.spec_lemmas.proofs.Records.{subhistory_of-push_same}
pub use Rattle.world_laws.proofs.Recorded.{AreRecorded}
pub use Rattle.event_queue.specs.Book.{IsAt}
pub use Rattle.event_queue.specs.Numbered.{count_of, numbered}
pub use Rattle.event_queue.specs.Pages.{Page, recorded, scribe_page}
pub use Rattle.event_queue.specs.Stages.{Committed, Idle, Open, Stage}
pub use Rattle.event_queue.specs.View.{AreBegun, AreWhole, CpuView, ScribeView, before_calls, count_recorded, hearing}
pub use Rattle.spec_lemmas.proofs.Places.{cpu_below}
