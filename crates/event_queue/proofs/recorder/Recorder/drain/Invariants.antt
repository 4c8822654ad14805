use Rattle.event_queue.proofs.Common.{◌≡◌, ◌+◌, ◌≤◌, List, ◌++◌, length, Event}
use Rattle.event_queue.proofs.recorder.Recorder.drain.Given as goal

abbrev pub invariant-loop-taken : goal.invariant-loop-taken
invariant-loop-taken g l =
    (so_far : List Event) × (length so_far ≡ l.taken) × (l.scribe ≡ record l.initial.scribe { events = l.initial.scribe.events ++ so_far })
    × (l.history.recorded ≡ record l.initial.history.recorded { events = l.scribe.events })
    × (l.initial.history.room + length l.initial.scribe.events ≤ l.history.room + length l.scribe.events)
