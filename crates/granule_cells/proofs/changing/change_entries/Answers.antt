use Rattle.std.proofs.Common.{ap, subst, sym, ◌∙◌}
use Rattle.std.specs.Prelude.{IfSome}
use Rattle.rmm_laws.specs.Whole.{cells_with_realm_change, cells_with_tag_change}
use Rattle.granule_cells.specs.Changes.{CanUpdate}
use Rattle.granule_cells.proofs.Fits.{rec-tagged, rec-updated}
use Rattle.granule_cells.proofs.changing.change_entries.Goals as goal

pub change_rec-requires : goal.change_rec-requires
change_rec-requires g c =
    let a = c.args in
    let cells = g.S.CellStore.cells_in a.store.now in
    let updated = c.change_realm.ensures.cells ∙ ap (λ x. cells_with_realm_change x a.realm) c.change_tag.ensures.cells in
    subst (λ x. IfSome a.rec (CanUpdate x)) (sym updated)
    (rec-updated (cells_with_tag_change cells a.page) a.realm a.rec (rec-tagged cells a.page a.rec c.requires.parts.of_rec))
