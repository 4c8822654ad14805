-- The words of the definitions, and the laws of other crates, that proofs here cite in more than one file.
pub use Rattle.std.proofs.Common.{◌*◌, ◌++◌, ◌+◌, ◌<◌, ◌∙◌, ◌∷◌, ◌≡◌, ◌≤◌, Bool, IsTrue, List, None, Option, Some, [], ap, arith, false, inl, inr, length, refl, subst, suc, sym, take, true, zero, ℕ}
pub use Rattle.std.proofs.lemmas.Bool.{cases_lt}
pub use Rattle.std.proofs.lemmas.Bool.Decides.{nat_tests}
pub use Rattle.std.proofs.lemmas.Option.{slice_get_within}
pub use Rattle.std.specs.List.{slice_get}
pub use Rattle.rmm_spec.specs.FirstFault.{Passes}
pub use Rattle.rmm_spec.specs.HistoryText.{History, IsHistory}
pub use Rattle.rmm_spec.specs.Linearization.{IsCalled, cpu_named, number_named}
pub use Rattle.rmm_spec.specs.State.{State}
pub use Rattle.rmm_spec.specs.declared.{command.Command.Command, event.Event.Event, line.Line.Line, reply.Reply.Reply}
pub use Rattle.spec_machine.specs.View.{state_of}
pub use Rattle.certificate.specs.LineRef.{line_seen}
unfoldable pub use Rattle.explain.specs.{Watch.is_so}
