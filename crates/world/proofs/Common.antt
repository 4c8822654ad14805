-- The words of the definitions, and the laws of other crates, that proofs here cite in more than one file.
pub use Rattle.std.proofs.Common.{◌++◌, ◌+◌, ◌<◌, ◌==◌, ◌∙◌, ◌∷◌, ◌≡◌, Bool, IsTrue, List, None, Option, Some, [], ap, arith, drop, eq-eqb, eqb-true, false, get_or, if◌then◌else◌, inl, inr, length, refl, slice_get, subst, suc, sym, take, true, vec_len, zero, ℕ}
pub use Rattle.std.proofs.lemmas.Bool.{false≢true}
pub use Rattle.std.proofs.lemmas.Option.{none-some, same_Some}
pub use Rattle.std.specs.Prelude.{Contains}
unfoldable pub use Rattle.rmm_spec.specs.{World.opening_world}
pub use Rattle.rmm_spec.specs.Call.{call_of}
pub use Rattle.rmm_spec.specs.Cell.{put}
pub use Rattle.rmm_spec.specs.HistoryText.{Config}
pub use Rattle.rmm_spec.specs.Local.{put_all}
pub use Rattle.rmm_spec.specs.Waits.{Did, Turns, awaited}
pub use Rattle.rmm_spec.specs.World.{Decided, Deciding, IsDeciding, IsGoing, World, held_cells}
pub use Rattle.rmm_spec.specs.declared.{command.Command.Command, reply.Reply.Reply, turn.Will.Will}
pub use Rattle.command_core.specs.Seen.{are_distinct, place_of}
pub use Rattle.command_core.specs.Sides.{side_of}
pub use Rattle.command_core.specs.declared.{next.Next.TheVariants.Ready, next.Next.TheVariants.Take}
unfoldable pub use Rattle.world.specs.{Cpus.views_of, Granules.cells_of, Granules.holder_of, Recorded.commit_room, Recorded.event_room, Whole.world_from, World.world_of}
pub use Rattle.world.specs.Cpus.{Views, is_deciding, phase_in}
pub use Rattle.world.specs.Kept.{IsReached}
pub use Rattle.world.specs.Lent.{cells_at}
pub use Rattle.world.specs.Next.{IsNext}
pub use Rattle.world.specs.Whole.{world_with}
pub use Rattle.world.specs.declared.{cpus.Cpu.Cpu}
