use Rattle.spec_machine.proofs.Common.{◌/◌, ◌∙◌, ◌≡◌, ap, arith, cells_of, length, place-within, place_in}
use Rattle.spec_machine.specs.GranulePlace.{count_in}
use Rattle.spec_machine.specs.Whole.{cells_in}
use Rattle.spec_machine.proofs.Kept.{cells_in-further}
use Rattle.spec_machine.proofs.cell_list.CellList.make_place.Goals as goal
use Rattle.spec_lemmas.proofs.Lookups.{granule-within}

pub make-place-requires-clause-within : goal.make-place-requires-clause-within
make-place-requires-clause-within c =
    let list = c.args.self.now in
    omega (arith, granule-within list.config.granules c.args.granule c.requires.granule, list.granules)

pub push_block-requires : goal.push_block-requires
push_block-requires c =
    let list = c.args.self.now in
    let further = c.make-place.ensures.further in
    omega (arith, list.each, list.room, further.count, further.room, further.within)

pub returns-clause-cells : goal.returns-clause-cells
unfolding cells_of
returns-clause-cells c =
    let list = c.args.self.now in
    let count : count_in list.places ≡ length list.cells.items = omega (arith, list.each) in
    ap (λ items. cells_in list.config.granules (place_in c.make-place.new.self) items) c.push_block.ensures.items
    ∙ cells_in-further list.config.granules 512 list.places c.make-place.new.self list.cells.items c.make-place.ensures.further count

pub returns-clause-place : goal.returns-clause-place
returns-clause-place c =
    let list = c.args.self.now in
    record {
      granule = c.requires.granule;
      at = c.make-place.ensures.place;
      within = omega (
        arith,
        place-within c.make-place.new.self (c.args.granule / 4096) c.make-place.result c.make-place.ensures.place,
        c.make-place.ensures.further.count,
        list.each,
        c.push_block.ensures.len,
      );
    }
