use Rattle.std.proofs.Common.{◌≡◌, IsTrue, take}
use Rattle.rtt_table.proofs.columns.same_kinds.Given as goal

abbrev pub invariant-loop-index : goal.invariant-loop-index
invariant-loop-index l = IsTrue l.same → take l.index l.one ≡ take l.index l.other
