use Rattle.undo_log.proofs.Common.{◌∙◌, ◌≡◌, CanApply, CellList, ap, cells_of, changed, config_of, flat_state, places_of, state_in, subst, subst₂, sym, whole_of}
use Rattle.granule_cells.specs.Changes.{table_found}
use Rattle.granule_cells.specs.Sides.{side_of}
use Rattle.rmm_spec.specs.Cell.{tables_of}
use Rattle.rmm_spec.specs.Flat.{table_granule}
use Rattle.rmm_laws.specs.Whole.{IsShaped, whole_changed}
use Rattle.undo_log.proofs.Noted.{changed-back}
use Rattle.undo_log.specs.Patches.{patched, standing_of}
use Rattle.undo_log.proofs.patch.Patch.apply_logged.Goals as goal

pub apply-requires : goal.apply-requires
unfolding state_in
apply-requires c =
    subst (λ (l : CellList). CanApply (flat_state l.config (cells_of l)) c.args.change.now) (sym c.table_for-at.ensures.list) c.requires

pub returns-clause-ok : goal.returns-clause-ok
unfolding state_in
returns-clause-ok c =
    c.in_ok-apply.ensures.ok ∙ ap (λ (l : CellList). changed (flat_state l.config (cells_of l)) c.args.change.now) c.table_for-at.ensures.list

pub returns-clause-back : goal.returns-clause-back
unfolding patched state_in flat_state
returns-clause-back c =
    let found = c.table_for-at.ensures in
    let m = c.table_for-at.new.self in
    let change = c.args.change.now in
    let config = config_of m.granules in
    let w = whole_of m.granules in
    let noted = c.in_ok-note.ensures in
    let done = c.in_ok-apply.ensures in
    let same : standing_of m ≡ standing_of c.args.machine.now = λ i. record {
      config = (found.list i).config;
      whole = record { cells = cells_of (found.list i); side = side_of (found.side i); places = places_of (found.places i) };
    } in
    let at : c.table_for-at.result ≡ table_found (table_granule config.granules (tables_of w.cells)) change =
    found.is ∙ ap (λ (l : CellList). table_found (table_granule l.config.granules (tables_of (cells_of l))) change) (sym found.list) in
    let shaped : IsShaped config (whole_changed config w change) = subst₂ IsShaped done.size done.whole c.apply.new.self.shaped in
    let made : standing_of c.apply.new.self ≡ record { config = config; whole = whole_changed config w change } =
    λ i. record { config = done.size i; whole = done.whole i } in
    ap (patched c.note.new.self) made
    ∙ changed-back config w change c.table_for-at.result c.note.new.self.items.items at m.shaped shaped noted.cells noted.beside
    ∙ noted.kept.back ∙ ap (patched c.args.self.now) same
