use Rattle.std.proofs.Common.{◌≡◌, ◌≤◌, ◌++◌, map, length, take, vec_capacity}
use Rattle.rmm_spec.specs.HistoryText.{event_parts}
use Rattle.rmm_spec.specs.Text.{lines_text}
use Rattle.text_writers.proofs.histories.push_events.Given as goal

-- what is written and what is left to write are the whole text
abbrev pub invariant-loop-event : goal.invariant-loop-event
invariant-loop-event l = record {
  written : l.out.items ++ lines_text (map event_parts l.events) ≡ l.fn.out.items ++ lines_text (map event_parts l.history.recorded.events);
  kept : take (length l.fn.out.items) l.out.items ≡ l.fn.out.items;
  capacity : vec_capacity l.fn.out ≤ vec_capacity l.out;
}

abbrev pub decreases-loop-event : goal.decreases-loop-event
decreases-loop-event l = length l.events
