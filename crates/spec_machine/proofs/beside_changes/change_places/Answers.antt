use Rattle.spec_machine.proofs.Common.{◌∙◌, ap, cells_of, places_of, sym}
use Rattle.rmm_laws.specs.Whole.{places_of_rec}
use Rattle.spec_machine.proofs.BesideChanged.{no_rec-places}
use Rattle.spec_machine.proofs.OneChanged.{rec_cell}
use Rattle.spec_machine.proofs.beside_changes.change_places.Goals as goal

pub returns : goal.returns
returns c =
    rw c.in-Some.is
    (c.change_place.ensures
    ∙ ap (places_of_rec (places_of c.args.places.now) c.in-Some.field-0.rec c.in-Some.field-0.update)
    (sym (rec_cell (cells_of c.args.list.now c.in-Some.field-0.rec) c.in-Some-rec_in.held.now c.in-Some-rec_in.ensures)))

pub returns-in_default-rec_in : goal.returns-in_default-rec_in
returns-in_default-rec_in c =
    rw c.in-Some.is
    (no_rec-places (places_of c.args.places.now) c.in-Some.field-0.rec c.in-Some.field-0.update
    (cells_of c.args.list.now c.in-Some.field-0.rec) c.in_default-rec_in.ensures)
