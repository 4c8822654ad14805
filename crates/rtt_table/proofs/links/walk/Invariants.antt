use Rattle.std.proofs.Common.{◌-◌}
use Rattle.rtt_table.proofs.Steps.{IsReached}
use Rattle.rtt_table.proofs.links.walk.Given as goal

abbrev pub invariant-loop-reached : goal.invariant-loop-reached
invariant-loop-reached g l = IsReached (g.C.Cells.cells l.cells) l.fn.root l.ipa l.max l.reached.pa l.reached.level l.reached.entry

abbrev pub decreases-loop-reached : goal.decreases-loop-reached
decreases-loop-reached g l = l.max - l.reached.level
