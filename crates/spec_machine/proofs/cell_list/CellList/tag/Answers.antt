use Rattle.spec_machine.proofs.Common.{◌/◌, ◌∙◌, Some, ap, arith, cells_of, place-within, place_in, sym}
use Rattle.rmm_spec.specs.Cell.{tag_of}
use Rattle.spec_machine.proofs.Kept.{cells_in-between}
use Rattle.spec_machine.proofs.OneChanged.{place-cell}
use Rattle.spec_machine.proofs.PlacedCells.{some-place}
use Rattle.spec_machine.proofs.cell_list.CellList.tag.Goals as goal

pub returns-then-address-ne0-clause-tag : goal.returns-then-address-ne0-clause-tag
unfolding cells_of
returns-then-address-ne0-clause-tag c =
    let list = c.args.self.now in
    ap tag_of (sym (cells_in-between list.config.granules (place_in list.places) list.cells.items c.args.address c.if-address-ne0.true))

pub tag-requires : goal.tag-requires
tag-requires c =
    let list = c.args.self.now in
    let number = c.args.address / 4096 in
    omega (arith, place-within list.places number number (c.near.ensures number c.if-number-near.true), list.each)

pub returns-then-number-near-clause-there : goal.returns-then-number-near-clause-there
returns-then-number-near-clause-there c =
    let number = c.args.address / 4096 in
    (some-place c.args.self.now c.args.address (Some number) c.if-address-ne0.false (sym (c.near.ensures number c.if-number-near.true))).granule

pub returns-then-number-near-clause-tag : goal.returns-then-number-near-clause-tag
returns-then-number-near-clause-tag c =
    let list = c.args.self.now in
    let number = c.args.address / 4096 in
    let is = some-place list c.args.address (Some number) c.if-address-ne0.false (sym (c.near.ensures number c.if-number-near.true)) in
    c.tag.ensures ∙ ap tag_of (place-cell list c.args.address number is)
