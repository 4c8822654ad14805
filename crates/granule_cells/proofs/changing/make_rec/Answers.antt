use Rattle.std.proofs.Common.{◌∙◌, ◌≡◌, ap, rules, subst, subst₂, sym}
use Rattle.rmm_spec.specs.declared.change.RealmUpdate.TheVariants.{RecCounted}
use Rattle.rmm_spec.specs.Cell.{RecAux, put}
use Rattle.realm_desc.specs.View.{rec_record}
use Rattle.granule_cells.specs.declared.cell_change.CellChange.TheVariants.{Realm}
use Rattle.granule_cells.specs.OneCell.{FitsCell}
use Rattle.granule_cells.proofs.Fits.{index-made}
use Rattle.granule_cells.proofs.changing.make_rec.Goals as goal

pub change-requires : goal.change-requires
unfolding rec_record
change-requires g c =
    let a = c.args in
    let cells = g.S.CellStore.cells_in a.store.now in
    let aux0 = c.address.result in
    let aux1 = c.address-2.result in
    let rd = c.address-3.result in
    let index = c.made.inside.index in
    let three =
    c.put_cell-3.ensures.cells ∙ ap (λ x. put x aux1 RecAux) (c.put_cell-2.ensures.cells ∙ ap (λ x. put x aux0 RecAux) c.put_cell.ensures.cells) in
    let owner : a.made.owner ≡ rd = search rules in
    let same : a.made.index ≡ index = search rules in
    subst (λ x. FitsCell (x rd) (Realm (RecCounted index a.flags))) (sym three)
    (index-made cells rd index a.flags a.rec aux0 aux1 a.made
    (subst₂ (λ at number. FitsCell (cells at) (Realm (RecCounted number a.flags))) owner same c.requires.index))
