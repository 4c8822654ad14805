use Rattle.std.proofs.Common.{nat_lt, ap, ◌∙◌}
use Rattle.std.specs.List.{list_any}
use Rattle.rmm_spec.specs.Walk.{is_live}
use Rattle.rmm_spec.specs.Table.{TableRecord}
use Rattle.rtt_table.specs.declared.unplaced.Body.{Body}
use Rattle.rtt_table.proofs.Counted.{count-any}
use Rattle.rtt_table.proofs.table.Table.is_live.Goals as goal

pub returns : goal.returns
returns c =
    ap (λ (b : Body). nat_lt 0 b.live) c.deref.ensures
    ∙ (ap (λ n. nat_lt 0 n) c.self.invariant.1.of_live
    ∙ (count-any is_live c.self.inside.body.value.columns ∙ ap (λ (t : TableRecord). list_any is_live t.entries) c.self.view_is))
