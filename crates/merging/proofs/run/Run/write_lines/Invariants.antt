use Rattle.merging.proofs.Common.{◌≡◌, ◌≤◌, Appends, event_parts, events_from, false, known_front, lasts_in, line_parts, lines_from, lines_text, map, no_lasts, returns_in, stand_at, stands_after, stands_in, starts, take}
use Rattle.std.proofs.Common.{vec_capacity}
use Rattle.merging.specs.Naming.{lasts_after}
use Rattle.merging.proofs.run.Run.write_lines.Given as goal

abbrev pub invariant-loop-stamp : goal.invariant-loop-stamp
invariant-loop-stamp g l = record {
  history : Appends l.fn.history.contents l.history.contents (lines_text (map event_parts (events_from starts (take l.stamp l.self.events))));
  certificate : Appends l.fn.certificate.contents l.certificate.contents
      (lines_text (map line_parts (lines_from (λ cpu. returns_in cpu l.self.events) starts (take l.stamp l.self.events))));
  going : (l.history.has_failed ≡ false) × (l.certificate.has_failed ≡ false);
  room : 256 ≤ vec_capacity l.line;
  stands : stand_at (stands_in l.cpus) ≡ stands_after starts (take l.stamp l.self.events);
  lasts : lasts_in l.lasts ≡ lasts_after no_lasts (take l.stamp (known_front l.table.slots));
}
