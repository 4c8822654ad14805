use Rattle.std.proofs.Common.{◌∙◌, ◌≡◌, ℕ, ◌*◌, ◌%◌, List, Option, ap, replicate, subst}
use Rattle.std.specs.Prelude.{IsSomeAnd, slice_set}
use Rattle.rmm_spec.specs.declared.entry.Entry.{Entry}
use Rattle.rmm_spec.specs.declared.entry.Entry.TheVariants.{Table}
use Rattle.rmm_spec.specs.declared.place.Place.{Place}
use Rattle.rmm_spec.specs.Cell.{Rtt, put}
use Rattle.rmm_spec.specs.Table.{TableRecord}
use Rattle.rmm_spec.specs.Walk.{table_size}
use Rattle.rmm_laws.specs.Whole.{cell_with_entries, changed_at, copied_table, width_in}
use Rattle.granule_cells.specs.Changes.{cells_made}
use Rattle.granule_cells.specs.Rooms.{IsRoomFor}
use Rattle.granule_cells.proofs.applying.apply.Goals as goal

pub returns-in-Some-clause-cells : goal.returns-in-Some-clause-cells
unfolding cells_made
returns-in-Some-clause-cells g c =
    let t = c.in-TableMade in
    let cells = g.S.CellStore.cells_in c.args.store.now in
    let above = c.in-Some.above in
    let room = subst (λ change. IsRoomFor change c.args.room) t.is c.requires.room in
    let entries = subst (λ (o : Option (List Entry)). IsSomeAnd o (λ (x : List Entry). x ≡ replicate 512 t.entry)) c.into_table.ensures room in
    let of_width : ℕ → Place = λ width. record { rd = t.rd; level = t.level; base = t.number * table_size t.level; width = width } in
    let place : c.place_of-place.result ≡ of_width (width_in (cells above)) =
    c.place_of-place.ensures.place ∙ ap of_width (c.width_of.ensures ∙ ap width_in c.cell.ensures) in
    let made : c.at.result ≡ copied_table t.rd t.level t.number (width_in (cells above)) t.entry =
    c.at.ensures ∙ (λ i. record { place = place i; entries = entries i }) in
    let linked = changed_at cells above (cell_with_entries (λ entries. slice_set entries (t.number % 512) (Table t.rtt))) in
    rw (t.is, c.in-Some.is)
    (subst (λ (x : TableRecord). g.S.CellStore.cells_in c.make_table.new.store ≡ put linked t.rtt (Rtt x)) made c.make_table.ensures.cells)
