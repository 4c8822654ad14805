use Rattle.event_queue.proofs.Common.{◌≡◌, ◌<◌, take, count_recorded}
use Rattle.event_queue.proofs.rest.count_recorded.Given as goal

abbrev pub invariant-loop-pass : goal.invariant-loop-pass
invariant-loop-pass l = (l.count ≡ count_recorded (take l.pass-index l.passes)) × (l.count < 1000000)
