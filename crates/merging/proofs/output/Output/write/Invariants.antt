use Rattle.std.proofs.Common.{◌≡◌, false, length}
use Rattle.merging.specs.Written.{GrowsUpTo}
use Rattle.merging.proofs.output.Output.write.Given as goal

abbrev pub invariant-loop-rest : goal.invariant-loop-rest
invariant-loop-rest g l = GrowsUpTo l.rest l.bytes l.fn.self.contents l.self.contents × (l.self.has_failed ≡ false)

abbrev pub decreases-loop-rest : goal.decreases-loop-rest
decreases-loop-rest g l = length l.rest
