use Rattle.spec_machine.proofs.Common.{CellList, Option, ap, cells_of, config_of, flat_state, places_of, state_in, subst, subst₂, sym, whole_of, ℕ, ◌∙◌, ◌≡◌}
use Rattle.granule_cells.specs.Changes.{CanPutAll, FitsCells, cells_made}
use Rattle.granule_cells.specs.MadeLaws.{cells_made-changed}
use Rattle.granule_cells.specs.Sides.{side_of}
use Rattle.rmm_spec.specs.Applicable.{CanApply}
use Rattle.rmm_spec.specs.Lookup.{is_granule}
use Rattle.rmm_laws.specs.Whole.{places_changed, side_changed, whole_changed}
use Rattle.spec_machine.proofs.CanMake.{change-fits, granules-put}
use Rattle.spec_machine.proofs.Made.{made}
use Rattle.spec_machine.proofs.machine.Machine.apply.Goals as goal

pub change_beside-requires-clause-can : goal.change_beside-requires-clause-can
unfolding state_in
change_beside-requires-clause-can c =
    subst (λ (l : CellList). CanApply (flat_state l.config (cells_of l)) c.args.change.now) (sym c.table_for-at.ensures.list) c.requires

pub apply-requires-clause-has : goal.apply-requires-clause-has
apply-requires-clause-has c =
    let m = c.args.self.now in
    subst (λ (l : CellList). CanPutAll (is_granule l.config.granules) c.args.change.now)
    (sym (c.change_beside.ensures.list ∙ c.table_for-at.ensures.list))
    (granules-put m.granules m.shaped c.args.change.now c.requires)

pub apply-requires-clause-fits : goal.apply-requires-clause-fits
apply-requires-clause-fits c =
    let m = c.args.self.now in
    let list = c.change_beside.ensures.list ∙ c.table_for-at.ensures.list in
    subst₂ (λ (l : CellList) (at : Option ℕ). FitsCells (cells_of l) at c.args.change.now) (sym list) (sym c.table_for-at.ensures.is)
    (change-fits m.granules m.shaped c.args.change.now c.requires)

-- the cells, the side table and the places are those of the change
whole : (c : goal.After-apply) → whole_of (record c.change_beside.new.granules { list = c.apply.new.store })
    ≡ whole_changed (config_of c.args.self.now.granules) (whole_of c.args.self.now.granules) c.args.change.now
unfolding state_in flat_state
whole c =
    let g = c.args.self.now.granules in
    let change = c.args.change.now in
    let found = c.table_for-at.ensures in
    let beside = c.change_beside.ensures in
    let cells = c.apply.ensures.cells ∙ (λ i. cells_made (cells_of ((beside.list ∙ found.list) i)) (found.is i) change)
    ∙ cells_made-changed (config_of g) (cells_of g.list) change in
    let side = beside.side ∙ (λ i. side_changed (cells_of (found.list i)) (side_of (found.side i)) change) in
    let places = beside.places ∙ (λ i. places_changed (cells_of (found.list i)) (places_of (found.places i)) change) in
    λ i. record { cells = cells i; side = side i; places = places i }

size : (c : goal.After-apply) → c.apply.new.store.config ≡ c.args.self.now.granules.list.config
size c = c.apply.ensures.kept ∙ ap (λ (l : CellList). l.config) (c.change_beside.ensures.list ∙ c.table_for-at.ensures.list)

pub invariant_of-self : goal.invariant_of-self
invariant_of-self c =
    let m = c.args.self.now in
    record {
      shaped = (made m.granules (record c.change_beside.new.granules { list = c.apply.new.store }) c.args.change.now m.shaped c.requires
          (size c) (whole c)).0;
    }

pub returns-clause-ok : goal.returns-clause-ok
returns-clause-ok c =
    let m = c.args.self.now in
    (made m.granules (record c.change_beside.new.granules { list = c.apply.new.store }) c.args.change.now m.shaped c.requires
    (size c.before) (whole c.before)).1

pub returns-clause-size : goal.returns-clause-size
returns-clause-size c = size c.before

pub returns-clause-whole : goal.returns-clause-whole
returns-clause-whole c = whole c.before
