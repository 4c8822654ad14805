use Rattle.world.proofs.Common.{◌∙◌, ap, arith, cells_of, put}
use Rattle.command_core.specs.Seen.{cell_of}
use Rattle.granule_cells.specs.declared.cell.Cell.{Cell}
use Rattle.granule_cells.specs.declared.cell.Cell.TheVariants.{Undelegated}
use Rattle.world.proofs.Listed.{item_at-set, item_at-granule}
use Rattle.world.proofs.cells.Cells.replace.Goals as goal
use Rattle.spec_lemmas.proofs.Lookups.{granule-within}

pub index_mut-requires : goal.index_mut-requires
index_mut-requires c = omega (arith, c.place.ensures, granule-within c.args.self.now.list.len c.args.pa c.requires)

pub returns-clause-cells : goal.returns-clause-cells
unfolding cells_of
returns-clause-cells c =
    let list = c.args.self.now.list in
    item_at-set cell_of list.items Undelegated c.replace.new.dest list.len c.args.pa c.place.result list.ok.0 c.requires c.place.ensures
    ∙ ap (λ (x : Cell). put (cells_of c.args.self.now) c.args.pa (cell_of x)) c.replace.ensures.after

pub returns-clause-given : goal.returns-clause-given
unfolding cells_of
returns-clause-given c =
    let list = c.args.self.now.list in
    ap cell_of (c.replace.ensures.value ∙ item_at-granule list.items Undelegated c.index_mut.result.now list.len c.args.pa c.place.result list.ok.0
    c.requires c.place.ensures c.index_mut.ensures.value)
