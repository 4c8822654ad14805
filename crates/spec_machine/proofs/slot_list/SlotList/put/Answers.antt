use Rattle.std.proofs.Common.{◌∙◌, ap, arith, length, sym}
use Rattle.std.specs.Prelude.{is_some}
use Rattle.rmm_spec.specs.Cell as spec
use Rattle.granule_cells.specs.Seen.{cell_of}
use Rattle.spec_machine.specs.Held.{HeldCells, cell_at, with_cell}
use Rattle.spec_machine.proofs.OneChanged.{rec_cell}
use Rattle.spec_machine.proofs.Slots.{put-vacated, vacated-cell, vacated-length}
use Rattle.spec_machine.proofs.slot_list.SlotList.put.Goals as goal

pub remove_rec-requires-clause-rec : goal.remove_rec-requires-clause-rec
remove_rec-requires-clause-rec c = sym (ap is_some c.in-Some.ensures)

pub fill-requires : goal.fill-requires
fill-requires c =
    let held = c.args.self.now in
    record {
      within = omega (arith, c.requires, vacated-length held c.args.place, ap (λ (h : HeldCells). length h.items) c.remove_rec.ensures);
      plain = ap (λ (h : HeldCells). spec.rec_in (cell_at h c.args.place)) c.remove_rec.ensures
          ∙ ap spec.rec_in (vacated-cell held c.args.place c.requires);
    }

pub returns-in-Some-clause-put : goal.returns-in-Some-clause-put
returns-in-Some-clause-put c =
    c.fill.ensures.put ∙ ap (λ (h : HeldCells). with_cell h c.args.place (cell_of c.args.cell)) c.remove_rec.ensures
    ∙ put-vacated c.args.self.now c.args.place (cell_of c.args.cell)

pub returns-in-Some-clause-given : goal.returns-in-Some-clause-given
returns-in-Some-clause-given c = sym (rec_cell (cell_at c.args.self.now c.args.place) c.in-Some.rec.now c.in-Some.ensures)
