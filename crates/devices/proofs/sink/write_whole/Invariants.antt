use Rattle.std.proofs.Common.{◌≡◌, ◌≤◌, ◌+◌, ◌-◌, ◌++◌, length, take}
use Rattle.std.specs.Io.KnownBytes.{Appends}
use Rattle.devices.proofs.sink.write_whole.Given as goal

abbrev pub invariant-loop-at : goal.invariant-loop-at
invariant-loop-at g l = (l.at ≤ length l.bytes) × (length l.bytes ≤ l.at + g.K.Sink.room l.sink)
    × (g.K.Sink.taken l.sink ≡ g.K.Sink.taken l.fn.sink ++ take l.at l.bytes)
    × Appends (g.K.Sink.contents l.fn.sink) (g.K.Sink.contents l.sink) (take l.at l.bytes) × (g.K.Sink.failures l.sink ≡ g.K.Sink.failures l.fn.sink)

abbrev pub decreases-loop-at : goal.decreases-loop-at
decreases-loop-at g l = length l.bytes - l.at
