use Rattle.command_core.proofs.Common.{◌∙◌, IsTrue, are_distinct, arith, subst, sym}
use Rattle.command_core.specs.Pairs.{paired, pair_cells}
use Rattle.command_core.proofs.Pairs.{position-first, cell_in-place, paired-remove, distinct-remove}
use Rattle.command_core.proofs.held_pairs.HeldPairs.remove.Goals as goal

pub invariant_of-self : goal.invariant_of-self
unfolding pair_cells
invariant_of-self c =
    let s = c.args.self.now in
    let first = position-first s.granules.items c.args.pa c.place_of-place.result c.place_of-place.ensures in
    record {
      same_count = omega (arith, c.remove.ensures.len, c.remove-2.ensures.len, s.same_count);
      few = omega (arith, c.remove.ensures.len, s.few);
      distinct = subst (λ granules. IsTrue (are_distinct granules)) (sym c.remove.ensures.items)
          (distinct-remove s.granules.items c.place_of-place.result first.0 s.distinct);
    }

pub returns-clause-cells : goal.returns-clause-cells
unfolding pair_cells
returns-clause-cells c =
    let s = c.args.self.now in
    let first = position-first s.granules.items c.args.pa c.place_of-place.result c.place_of-place.ensures in
    (λ i. paired (c.remove.ensures.items i) (c.remove-2.ensures.items i))
    ∙ paired-remove s.granules.items s.cells.items c.args.pa c.place_of-place.result s.same_count first s.distinct

pub returns-clause-given : goal.returns-clause-given
unfolding pair_cells
returns-clause-given c =
    let s = c.args.self.now in
    let first = position-first s.granules.items c.args.pa c.place_of-place.result c.place_of-place.ensures in
    cell_in-place s.granules.items s.cells.items c.args.pa c.place_of-place.result c.remove-2.result s.same_count first c.remove-2.ensures.value
