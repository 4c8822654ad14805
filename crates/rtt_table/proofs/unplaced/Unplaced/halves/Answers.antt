use Rattle.std.proofs.Common.{◌≡◌, ℕ, ◌+◌, if◌then◌else◌, Bool, List, sym, ap, ◌∙◌, subst}
use Rattle.std.specs.Prelude.{IfOk}
use Rattle.rmm_spec.specs.declared.entry.Entry.{Entry}
use Rattle.rtt_table.specs.Counts.{AreCounts}
use Rattle.rtt_table.proofs.Counted.{counts-halves}
use Rattle.rtt_table.proofs.unplaced.Unplaced.halves.Goals as goal

pub boxed-requires : goal.boxed-requires
boxed-requires c =
    let half : Bool → ℕ = λ (b : Bool). if b then 256 else 0 in
    let live = c.half_or_none.result + c.half_or_none-2.result in
    let links = c.half_or_none-3.result + c.half_or_none-4.result in
    subst (λ (xs : List Entry). AreCounts xs live links) (sym c.halves.ensures)
    (counts-halves 256 256 c.args.lower c.args.upper live links
    (λ i. (c.half_or_none.ensures.is ∙ ap half c.is_live.ensures) i + (c.half_or_none-2.ensures.is ∙ ap half c.is_live-2.ensures) i)
    (λ i. (c.half_or_none-3.ensures.is ∙ ap half c.is_table.ensures) i + (c.half_or_none-4.ensures.is ∙ ap half c.is_table-2.ensures) i))

pub returns : goal.returns
returns c = subst (λ (xs : List Entry). IfOk c.boxed.result (λ (ys : List Entry). ys ≡ xs)) c.halves.ensures c.boxed.ensures
