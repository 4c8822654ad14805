use Rattle.std.specs.Prelude.{◌≡◌, All, length}
use Rattle.monitor.specs.Cpus.{ArePairs}
use Rattle.monitor.specs.Executed.{ArePaired}
use Rattle.bench.proofs.Pairs.{AreNumbered}
use Rattle.bench.proofs.monitors.cpus.parted.Given as goal

abbrev pub invariant-loop-number : goal.invariant-loop-number
invariant-loop-number g l =
    ArePairs l.monitor l.tokens.items l.passes.items × (length l.tokens.items ≡ l.number) × AreNumbered l.tokens.items
    × All (λ cpu. ArePaired l.monitor cpu.token cpu.pass) l.cpus.items
