use Rattle.std.proofs.Common.{◌≡◌, ◌-◌, ◌^◌}
use Rattle.devices.proofs.ReadSoFar.{IsReadUpTo}
use Rattle.devices.proofs.until.read_until.Given as goal

abbrev pub invariant-loop-count : goal.invariant-loop-count
invariant-loop-count g l = IsReadUpTo g.S.Source.gives g.S.Source.left g.T.Taker.has_taken l.fn.source l.source l.fn.taker l.taker
    × (g.S.Source.failures l.source ≡ g.S.Source.failures l.fn.source)

abbrev pub decreases-loop-count : goal.decreases-loop-count
decreases-loop-count g l = 2 ^ 40 - g.S.Source.given l.source
