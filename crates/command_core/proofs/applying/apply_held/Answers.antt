use Rattle.command_core.proofs.Common.{Option, subst, sym, table_held, ◌∙◌, ap, ℕ}
use Rattle.std.specs.Prelude.{IfSome}
use Rattle.rmm_spec.specs.Table.{TableRecord}
use Rattle.rtt_table.specs.Shaped.{IsShaped}
use Rattle.granule_cells.specs.Changes.{FitsCells, cells_made}
use Rattle.command_core.specs.Pairs.{pair_cells, pairs-distinct}
use Rattle.command_core.specs.Seen.{known_cell}
use Rattle.command_core.proofs.Stored.{can-put, fits-known, made-held}
use Rattle.command_core.proofs.applying.apply_held.Goals as goal

pub apply-requires-clause-has : goal.apply-requires-clause-has
apply-requires-clause-has c = can-put (pair_cells c.args.held.now) c.args.change.now c.requires.held

pub apply-requires-clause-fits : goal.apply-requires-clause-fits
apply-requires-clause-fits c =
    let held = pair_cells c.args.held.now in
    let change = c.args.change.now in
    let found = c.table_touched-at.ensures.touched in
    let shaped = subst (λ (o : Option ℕ). IfSome o (λ g. IfSome (table_held held g) (λ (t : TableRecord). IsShaped t.place))) found
    c.table_touched-at.ensures.shaped in
    subst (λ (o : Option ℕ). FitsCells (known_cell held) o change) (sym found) (fits-known held change c.requires.fits shaped)

pub returns-clause-cells : goal.returns-clause-cells
returns-clause-cells c =
    let held = pair_cells c.args.held.now in
    made-held held (pair_cells c.apply.new.store) c.args.change.now c.requires.held (pairs-distinct c.args.held.now) c.apply.ensures.kept
    (c.apply.ensures.cells ∙ ap (λ at. cells_made (known_cell held) at c.args.change.now) c.table_touched-at.ensures.touched)
