use Rattle.std.proofs.Common.{arith}
use Rattle.rtt_table.proofs.Steps.{root_is_reached, next_is_held, next_is_reached, next_level, walk_ends}
use Rattle.rtt_table.proofs.links.walk.Goals as goal

pub loop-reached-init : goal.loop-reached-init
loop-reached-init g c = root_is_reached _ _ _ _ _ _ _ c.requires c.read-reached.ensures

pub returns-in_default : goal.returns-in_default
returns-in_default g c =
    walk_ends _ _ _ _ _ _ _ (g.met.C.Cells.are_placed c.args.cells.now) c.loop-reached.invariant
    (λ room next is_link. c.in_default.not-Table next is_link)

pub read-reached-requires-in-loop-reached : goal.read-reached-requires-in-loop-reached
read-reached-requires-in-loop-reached g c =
    rw c.new.ensures (next_is_held _ _ _ _ _ _ c.in-Table.next _ c.loop-reached.invariant c.in-Table.is)

pub loop-reached-preserved : goal.loop-reached-preserved
loop-reached-preserved g c =
    next_is_reached _ _ _ _ _ _ c.in-Table.next _ _ _ _ c.loop-reached.invariant (omega (arith, c.loop-reached-test.true)) c.in-Table.is
    (rw c.new.ensures at c.read-reached-in-loop-reached.ensures)

pub loop-reached-smaller : goal.loop-reached-smaller
loop-reached-smaller g c =
    let down = next_level _ _ _ _ _ _ c.in-Table.next _ _ _ _ c.loop-reached.invariant c.in-Table.is
    (rw c.new.ensures at c.read-reached-in-loop-reached.ensures) in
    omega (arith, down.0, c.loop-reached-test.true)

pub returns : goal.returns
returns g c =
    walk_ends _ _ _ _ _ _ _ (g.met.C.Cells.are_placed c.args.cells.now) c.loop-reached.invariant
    (λ room next is_link. absurd (omega (arith, c.loop-reached-test.false)))
