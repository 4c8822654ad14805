use Rattle.std.proofs.Common.{slice_index_or, arith}
use Rattle.std.proofs.lemmas.List.{get_or_default}
use Rattle.std.proofs.lemmas.List.Edits.{map_over_more}
use Rattle.rtt_table.specs.declared.kind.Kind.{Kind}
use Rattle.rtt_table.specs.declared.kind.Kind.TheVariants.{UnassignedEmpty}
use Rattle.rtt_table.proofs.columns.fill.Goals as goal

pub loop-old-preserved : goal.loop-old-preserved
loop-old-preserved c =
    let l = c.loop-old in
    let x = slice_index_or l.kinds l.old-index UnassignedEmpty in
    map_over_more (λ (k : Kind). c.args.kind) c.args.kinds.now l.kinds l.old-index x
    (omega arith) l.invariant (get_or_default l.kinds l.old-index UnassignedEmpty x (omega arith))
