-- The words of the definitions, and the laws of other crates, that proofs here cite in more than one file.
pub use Rattle.std.proofs.Common.{◌++◌, ◌+◌, ◌<◌, ◌∙◌, ◌∷◌, ◌≡◌, ◌≤◌, List, Option, Some, [], ap, append-nil, append_assoc, arith, false, length, map, refl, subst, suc, sym, take, zero, ℕ}
pub use Rattle.std.proofs.lemmas.Option.{slice_get_within}
pub use Rattle.std.specs.Io.KnownBytes.{Appends}
pub use Rattle.std.specs.Prelude.{slice_get}
unfoldable pub use Rattle.rmm_spec.specs.{CertificateText.line_parts}
pub use Rattle.rmm_spec.specs.HistoryText.{event_parts}
pub use Rattle.rmm_spec.specs.Text.{lines_text}
pub use Rattle.merging.specs.Events.{Call, Commit, Moment, Return}
pub use Rattle.merging.specs.SeenEvents.{happened_seen}
pub use Rattle.merging.specs.Table.{Happened}
pub use Rattle.merging.specs.Renamed.{lasts_in, no_lasts}
pub use Rattle.merging.specs.Run.{Stand, events_from, events_of, known_front, lines_from, lines_of, returns_in, stand_at, stands_after, stands_with, starts}
pub use Rattle.merging.specs.Seen.{stand_seen, stands_in}
