use Rattle.std.proofs.Common.{nat_lt, ap, ◌∙◌}
use Rattle.std.specs.List.{list_any}
use Rattle.rmm_spec.specs.Walk.{is_table}
use Rattle.rmm_spec.specs.Table.{TableRecord}
use Rattle.rtt_table.specs.declared.unplaced.Body.{Body}
use Rattle.rtt_table.proofs.Counted.{count-any}
use Rattle.rtt_table.proofs.table.Table.has_link.Goals as goal

pub returns : goal.returns
returns c =
    ap (λ (b : Body). nat_lt 0 b.links) c.deref.ensures
    ∙ (ap (λ n. nat_lt 0 n) c.self.invariant.1.of_links
    ∙ (count-any is_table c.self.inside.body.value.columns ∙ ap (λ (t : TableRecord). list_any is_table t.entries) c.self.view_is))
