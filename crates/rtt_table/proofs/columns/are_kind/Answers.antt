use Rattle.rtt_table.specs.declared.kind.Kind.TheVariants.{UnassignedEmpty}
use Rattle.rtt_table.proofs.Copies.{all_more}
use Rattle.rtt_table.proofs.columns.are_kind.Goals as goal

pub loop-kind-preserved : goal.loop-kind-preserved
loop-kind-preserved c =
    all_more c.args.same c.args.kinds.now c.loop-kind.kind-index UnassignedEmpty
    c.loop-kind.are c.is_kind-are.result c.loop-kind-test.true c.loop-kind.invariant
    c.is_kind-are.ensures
