use Rattle.std.proofs.Common.{subst, sym}
use Rattle.std.specs.Prelude.{IfSome}
use Rattle.granule_cells.specs.Changes.{CanUpdate}
use Rattle.granule_cells.proofs.Fits.{rec-updated}
use Rattle.granule_cells.proofs.changing.change_records.Goals as goal

pub change_rec-requires : goal.change_rec-requires
change_rec-requires g c =
    let a = c.args in
    subst (λ x. IfSome a.rec (CanUpdate x)) (sym c.change_realm.ensures.cells)
    (rec-updated (g.S.CellStore.cells_in a.store.now) a.realm a.rec c.requires.of_rec)
