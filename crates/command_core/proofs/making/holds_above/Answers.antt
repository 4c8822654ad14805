use Rattle.command_core.proofs.Common.{◌∙◌, ap, subst, sym, table_held, table_placed}
use Rattle.std.proofs.Common.{◌/◌}
use Rattle.std.specs.Prelude.{IfSome}
use Rattle.rmm_spec.specs.Table.{TableRecord}
use Rattle.rtt_table.specs.Shaped.{IsShaped}
use Rattle.command_core.specs.Pairs.{pair_cells}
use Rattle.command_core.proofs.Places.{made-small}
use Rattle.command_core.proofs.making.holds_above.Goals as goal

pub returns-in-Some-clause-fits : goal.returns-in-Some-clause-fits
returns-in-Some-clause-fits c =
    let a = c.args in
    let held = pair_cells a.held.now in
    let up = ap (λ level. table_placed held a.rd level (a.number / 512)) (sym c.saturating_sub.ensures) in
    let found = up ∙ (sym c.placed.ensures ∙ c.in-Some.is) in
    let shaped = subst (λ g. IfSome (table_held held g) (λ (t : TableRecord). IsShaped t.place)) c.new.ensures c.stands_well-fact.ensures in
    λ here some last. made-small held a.rd a.level a.number c.in-Some.granule found shaped some last
