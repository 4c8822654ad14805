use Rattle.event_queue.proofs.Common.{◌≡◌, ◌+◌, ◌≤◌, List, ◌++◌, length, Event}
use Rattle.event_queue.proofs.recorder.Recorder.drain_to.Given as goal

abbrev pub invariant-loop-look : goal.invariant-loop-look
invariant-loop-look g l =
    (rest : List Event) × (l.scribe ≡ record l.initial.scribe { events = l.initial.scribe.events ++ rest })
    × (l.history.recorded ≡ record l.initial.history.recorded { events = l.scribe.events })
    × (l.initial.history.room + length l.initial.scribe.events ≤ l.history.room + length l.scribe.events)
