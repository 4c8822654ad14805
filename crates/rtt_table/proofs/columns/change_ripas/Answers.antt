use Rattle.std.proofs.Common.{rules, arith}
use Rattle.std.proofs.lemmas.Grind.{common_steps}
use Rattle.std.proofs.lemmas.List.Edits.{map_over_more}
use Rattle.rtt_table.specs.Columns.{kind_with_ripas}
use Rattle.rtt_table.proofs.columns.change_ripas.Goals as goal

pub loop-kind-preserved : goal.loop-kind-preserved
loop-kind-preserved c =
    let step = c.kind_of_two.ensures c.args.ripas c.unassigned-unassigned.ensures c.assigned-assigned.ensures in
    first_of (
      search (rules, map_over_more (kind_with_ripas c.args.ripas), step),
      grind (arith, common_steps, map_over_more (kind_with_ripas c.args.ripas), step),
    )
