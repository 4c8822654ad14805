use Rattle.std.proofs.Common.{◌≡◌, ◌++◌, map, take, drop}
use Rattle.rtt_table.proofs.columns.fill.Given as goal

abbrev pub invariant-loop-old : goal.invariant-loop-old
invariant-loop-old l = l.kinds ≡ map (λ _. l.fn.kind) (take l.old-index l.initial.kinds) ++ drop l.old-index l.initial.kinds
