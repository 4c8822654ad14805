use Rattle.event_queue.proofs.Common.{◌≡◌, page_of, IsPassOf, scribe_page}
use Rattle.event_queue.proofs.recorder.count_cpus.Given as goal

abbrev pub invariant-loop-counted : goal.invariant-loop-counted
invariant-loop-counted l = IsPassOf l.queue l.scribe × (page_of l.scribe ≡ scribe_page l._counted 0)
