use Rattle.event_queue.proofs.Common.{◌≡◌, page_of, IsPassOf, scribe_page}
use Rattle.event_queue.proofs.Passes.{AreSeated}
use Rattle.event_queue.proofs.recorder.seat_cpus.Given as goal

abbrev pub invariant-loop-cpu : goal.invariant-loop-cpu
invariant-loop-cpu l =
    IsPassOf l.queue l.scribe × (page_of l.scribe ≡ scribe_page l.cpus l.cpu) × AreSeated l.queue.table.shared.table_id l.cpus l.cpu l.passes.items
