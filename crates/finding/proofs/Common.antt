-- The words of the definitions, and the laws of other crates, that proofs here cite in more than one file.
pub use Rattle.std.proofs.Common.{◌++◌, ◌+◌, ◌<◌, ◌^◌, ◌∙◌, ◌∷◌, ◌≡◌, ◌≤◌, IsTrue, List, None, Option, Some, [], ap, arith, inl, inr, length, refl, subst, sym, take, ℕ}
pub use Rattle.std.proofs.lemmas.Bool.{cases_lt}
pub use Rattle.std.proofs.lemmas.Option.{slice_get_within}
pub use Rattle.std.specs.List.{slice_get}
pub use Rattle.rmm_spec.specs.FirstFault.{Passes}
pub use Rattle.rmm_spec.specs.HistoryText.{History, IsHistory}
pub use Rattle.rmm_spec.specs.Linearization.{IsFinished, cpu_named, number_named}
pub use Rattle.rmm_spec.specs.State.{State, opening}
pub use Rattle.rmm_spec.specs.declared.{line.Line.Line, line.Line.TheVariants.Unfinished, reply.Reply.Reply}
pub use Rattle.spec_machine.specs.View.{state_of}
pub use Rattle.spec_lemmas.proofs.Calls.{HasOnePlaces-from_history}
pub use Rattle.verdict_laws.specs.Order.{LeadsNowhere}
pub use Rattle.finding.specs.Begun.{AllLost, IsBegun, IsRound, RoundLost}
pub use Rattle.finding.specs.Choice.{IsLeast, IsNextCall, rank_of}
pub use Rattle.finding.specs.Tried.{TriedIn}
pub use Rattle.finding.specs.declared.{choice.Choice.Choice, left.Left.Left}
