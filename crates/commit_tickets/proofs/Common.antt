-- The words of the definitions, and the laws of other crates, that proofs here cite in more than one file.
pub use Rattle.std.proofs.Common.{◌++◌, ◌+◌, ◌<◌, ◌∙◌, ◌∷◌, ◌≡◌, ◌≤◌, List, None, Some, [], ap, arith, inl, length, map, refl, subst, suc, sym, ℕ}
pub use Rattle.std.proofs.lemmas.List.{map-append}
pub use Rattle.std.specs.Prelude.{Err, Ok}
pub use Rattle.rmm_spec.specs.Cell.{put}
pub use Rattle.rmm_spec.specs.HistoryText.{Config}
pub use Rattle.rmm_spec.specs.Local.{HeldCell, LocalStep}
pub use Rattle.rmm_spec.specs.Run.{IsRun, JournalEntry}
pub use Rattle.rmm_spec.specs.State.{State, opening}
pub use Rattle.rmm_spec.specs.Step.{Step}
pub use Rattle.rmm_spec.specs.declared.{command.Command.Command, reply.Reply.Reply}
pub use Rattle.command_core.specs.Changed.{given_of}
pub use Rattle.command_core.specs.Foreseen.{change_of}
pub use Rattle.command_core.specs.Seen.{place_of}
pub use Rattle.command_log.specs.Log.{Entry}
pub use Rattle.granule_lock.specs.HeldCells.{hold_cells}
pub use Rattle.spec_machine.specs.View.{state_of}
pub use Rattle.commit_tickets.specs.Commits.{IsCommit}
pub use Rattle.commit_tickets.specs.Entries.{Committed, entry_of}
pub use Rattle.commit_tickets.specs.Listed.{mine_of, numbers_of}
pub use Rattle.commit_tickets.specs.View.{JournalView, TokenView, hold_with}
