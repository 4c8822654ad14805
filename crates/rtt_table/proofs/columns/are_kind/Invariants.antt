use Rattle.std.proofs.Common.{◌≡◌, ◌↔◌, IsTrue, take}
use Rattle.std.specs.List.{All}
use Rattle.rtt_table.proofs.columns.are_kind.Given as goal

abbrev pub invariant-loop-kind : goal.invariant-loop-kind
invariant-loop-kind l = IsTrue l.are ↔ All (λ k. k ≡ l.same) (take l.kind-index l.kinds)
