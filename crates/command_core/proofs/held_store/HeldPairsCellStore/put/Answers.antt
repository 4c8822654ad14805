use Rattle.command_core.proofs.Common.{◌∙◌, IsTrue, Option, ap, granules_held, is_held, subst, sym}
use Rattle.std.specs.Option.{unwrap_or}
use Rattle.rmm_spec.specs.Cell as whole
use Rattle.rmm_spec.specs.Cell.{put}
use Rattle.world_laws.proofs.Locals.{granules_held-replaced_cells}
use Rattle.command_core.specs.Pairs.{pair_cells}
use Rattle.command_core.specs.Seen.{cell_of, known_cell}
use Rattle.command_core.proofs.Stored.{is_held-listed, known-replaced}
use Rattle.command_core.proofs.held_store.HeldPairsCellStore.put.Goals as goal

pub swap-requires : goal.swap-requires
swap-requires c =
    let held = pair_cells c.args.self.now in
    subst (λ g. IsTrue (is_held g held)) (sym c.new.ensures) (is_held-listed held c.args.granule ∙ c.requires)

pub returns-clause-kept : goal.returns-clause-kept
returns-clause-kept c =
    ap granules_held c.swap.ensures.cells ∙ granules_held-replaced_cells (pair_cells c.args.self.now) c.new.result (cell_of c.args.cell)

pub returns-clause-cells : goal.returns-clause-cells
returns-clause-cells c =
    let held = pair_cells c.args.self.now in
    let there = subst (λ g. IsTrue (is_held g held)) (sym c.new.ensures) (is_held-listed held c.args.granule ∙ c.requires) in
    ap known_cell c.swap.ensures.cells ∙ known-replaced held c.new.result (cell_of c.args.cell) there
    ∙ ap (λ g. put (known_cell held) g (cell_of c.args.cell)) c.new.ensures

pub returns-clause-given : goal.returns-clause-given
returns-clause-given c =
    let known : Option whole.Cell → whole.Cell = λ found. unwrap_or found whole.Undelegated in
    let held = pair_cells c.args.self.now in
    ap known (sym c.swap.ensures.given) ∙ ap (known_cell held) c.new.ensures
