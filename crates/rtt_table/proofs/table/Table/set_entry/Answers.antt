use Rattle.std.proofs.Common.{◌≡◌, ◌+◌, Bool, sym, ap, subst, arith}
use Rattle.rmm_spec.specs.Walk.{is_live, is_table}
use Rattle.rtt_table.specs.Counts.{one_if, AreCounts}
use Rattle.rtt_table.specs.Shaped.{IsShaped}
use Rattle.rtt_table.specs.declared.unplaced.Body.{Body}
use Rattle.rtt_table.proofs.Counted.{count-within, count-at, counts-set}
use Rattle.rtt_table.proofs.table.Table.set_entry.Goals as goal

pub recounted-body-requires-clause-some : goal.recounted-body-requires-clause-some
recounted-body-requires-clause-some c =
    let counts = subst (λ (x : Body). AreCounts x.columns x.live x.links) (sym c.deref_mut-body.ensures.value) c.self.invariant.1 in
    let there = c.entry-old.ensures.value in
    omega (
      arith,
      ap (λ (b : Bool). one_if b) c.is_live.ensures,
      count-at is_live c.deref_mut-body.result.now.columns c.args.at c.entry-old.result there,
      counts.of_live,
    )

pub recounted-body-requires-clause-within : goal.recounted-body-requires-clause-within
recounted-body-requires-clause-within c =
    let counts = subst (λ (x : Body). AreCounts x.columns x.live x.links) (sym c.deref_mut-body.ensures.value) c.self.invariant.1 in
    let size = c.entry-old.ensures.count in
    omega (arith, counts.of_live, count-within is_live c.deref_mut-body.result.now.columns, size)

pub recounted-body-requires-2-clause-some : goal.recounted-body-requires-2-clause-some
recounted-body-requires-2-clause-some c =
    let counts = subst (λ (x : Body). AreCounts x.columns x.live x.links) (sym c.deref_mut-body.ensures.value) c.self.invariant.1 in
    let there = c.entry-old.ensures.value in
    omega (
      arith,
      ap (λ (b : Bool). one_if b) c.is_table.ensures,
      count-at is_table c.deref_mut-body.result.now.columns c.args.at c.entry-old.result there,
      counts.of_links,
    )

pub recounted-body-requires-2-clause-within : goal.recounted-body-requires-2-clause-within
recounted-body-requires-2-clause-within c =
    let counts = subst (λ (x : Body). AreCounts x.columns x.live x.links) (sym c.deref_mut-body.ensures.value) c.self.invariant.1 in
    let size = c.entry-old.ensures.count in
    omega (arith, counts.of_links, count-within is_table c.deref_mut-body.result.now.columns, size)

pub invariant_of-self : goal.invariant_of-self
invariant_of-self c =
    let counts = subst (λ (x : Body). AreCounts x.columns x.live x.links) (sym c.deref_mut-body.ensures.value) c.self.invariant.1 in
    let t = c.deref_mut-body.result.now in
    let there = c.entry-old.ensures.value in
    let live : c.recounted-body.result + one_if (is_live c.entry-old.result) ≡ t.live + one_if (is_live c.args.entry) =
    omega (arith, c.recounted-body.ensures, ap (λ (b : Bool). one_if b) c.is_live.ensures, ap (λ (b : Bool). one_if b) c.is_live-2.ensures) in
    let links : c.recounted-body-2.result + one_if (is_table c.entry-old.result) ≡ t.links + one_if (is_table c.args.entry) =
    omega (arith, c.recounted-body-2.ensures, ap (λ (b : Bool). one_if b) c.is_table.ensures, ap (λ (b : Bool). one_if b) c.is_table-2.ensures) in
    rw c.set_entry.ensures (
      subst (λ (x : Body). IsShaped x.place) (sym c.deref_mut-body.ensures.value) c.self.invariant.0,
      counts-set t.columns t.live t.links c.recounted-body.result c.recounted-body-2.result c.args.at
          c.entry-old.result c.args.entry counts there live links,
    )
