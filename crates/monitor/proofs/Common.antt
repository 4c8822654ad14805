-- The words of the definitions, and the laws of other crates, that proofs here cite in more than one file.
pub use Rattle.std.proofs.Common.{◌++◌, ◌+◌, ◌<◌, ◌∙◌, ◌∷◌, ◌≡◌, ◌≤◌, List, Some, [], ap, arith, inl, inr, length, refl, rules, slice_get, subst, suc, sym, take, true, ℕ, ⊎_elim}
pub use Rattle.std.proofs.lemmas.List.{length_push}
pub use Rattle.std.proofs.lemmas.Option.{same_Some, slice_get_within}
pub use Rattle.std.specs.List.{sum_by}
pub use Rattle.std.specs.Prelude.{Err, IfErr, IfOk, Ok, OnErr, Result}
pub use Rattle.rmm_spec.specs.HistoryText.{Config}
pub use Rattle.rmm_spec.specs.Run.{IsRun, JournalEntry}
pub use Rattle.rmm_spec.specs.State.{State, opening}
pub use Rattle.rmm_spec.specs.World.{Commitment, line_for}
pub use Rattle.rmm_spec.specs.declared.{command.Command.Command, event.Event.Event, line.Line.Line}
pub use Rattle.lemmas.proofs.Elements.{slice_get-map_to}
pub use Rattle.command_core.specs.Seen.{place_of}
pub use Rattle.granule_lock.specs.HeldCells.{hold_cells}
pub use Rattle.granule_lock.specs.Locked.{AreGranules}
pub use Rattle.commit_tickets.specs.Entries.{Committed}
pub use Rattle.commit_tickets.specs.Listed.{AreListed, numbers_of}
pub use Rattle.commit_tickets.specs.View.{JournalView, TokenView}
pub use Rattle.commit_tickets.specs.declared.committing.Done.{Done}
pub use Rattle.commit_tickets.specs.declared.fault.CommitFault.{CommitFault}
pub use Rattle.event_queue.proofs.Orders.{commitment, entries-numbered_from, numbered-at}
pub use Rattle.event_queue.specs.Numbered.{AreInOrder, count_of, lines_for, numbered}
pub use Rattle.event_queue.specs.View.{CpuView, before_calls}
pub use Rattle.monitor.specs.Closed.{IsJournal}
pub use Rattle.monitor.specs.Executed.{ArePaired, committed, returned, unreturned}
pub use Rattle.monitor.specs.Held.{LeavesHeld, WereHeld, WereTaken}
pub use Rattle.monitor.specs.View.{MonitorView}
pub use Rattle.monitor.specs.declared.refused.Refused.{Refused}
pub use Rattle.monitor.specs.declared.refused.Refused.TheVariants.{Unrecorded}
