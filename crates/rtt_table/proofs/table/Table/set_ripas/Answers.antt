use Rattle.std.proofs.Common.{sym, subst}
use Rattle.rtt_table.specs.Counts.{AreCounts}
use Rattle.rtt_table.specs.Shaped.{IsShaped}
use Rattle.rtt_table.specs.declared.unplaced.Body.{Body}
use Rattle.rtt_table.proofs.Counted.{counts-ripas}
use Rattle.rtt_table.proofs.table.Table.set_ripas.Goals as goal

pub invariant_of-self : goal.invariant_of-self
invariant_of-self c =
    let b = c.deref_mut.result.now in
    let counts = subst (λ (x : Body). AreCounts x.columns x.live x.links) (sym c.deref_mut.ensures.value) c.self.invariant.1 in
    rw c.set_ripas.ensures (
      subst (λ (x : Body). IsShaped x.place) (sym c.deref_mut.ensures.value) c.self.invariant.0,
      counts-ripas b.columns b.live b.links c.args.from c.args.to c.args.ripas counts c.requires.order,
    )
