use Rattle.std.proofs.Common.{◌≡◌, ◌++◌, map, take, drop}
use Rattle.rtt_table.specs.Columns.{kind_with_ripas}
use Rattle.rtt_table.proofs.columns.change_ripas.Given as goal

abbrev pub invariant-loop-kind : goal.invariant-loop-kind
invariant-loop-kind l =
    l.kinds ≡ map (kind_with_ripas l.fn.ripas) (take l.kind-index l.initial.kinds) ++ drop l.kind-index l.initial.kinds
