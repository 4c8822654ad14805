use Rattle.command_core.proofs.Common.{◌∙◌, IsTrue, are_distinct, arith, subst, sym}
use Rattle.command_core.proofs.Distinct.{distinct-push}
use Rattle.command_core.specs.Pairs.{paired, pair_cells}
use Rattle.command_core.specs.Pairs.{length-paired}
use Rattle.command_core.proofs.Pairs.{is_held-paired, paired-push}
use Rattle.command_core.proofs.held_pairs.HeldPairs.push.Goals as goal

pub push-requires : goal.push-requires
unfolding pair_cells
push-requires c =
    let s = c.args.self.now in
    (omega arith, omega (arith, c.requires.room, length-paired s.granules.items s.cells.items s.same_count))

pub push-requires-2 : goal.push-requires-2
unfolding pair_cells
push-requires-2 c =
    let s = c.args.self.now in
    (omega arith, omega (arith, c.requires.room, length-paired s.granules.items s.cells.items s.same_count, s.same_count))

pub invariant_of-self : goal.invariant_of-self
unfolding pair_cells
invariant_of-self c =
    let s = c.args.self.now in
    let apart = sym (is_held-paired s.granules.items s.cells.items c.args.pa s.same_count) ∙ c.requires.new in
    record {
      same_count = omega (arith, c.push.ensures.len, c.push-2.ensures.len, s.same_count);
      few = omega (arith, c.push.ensures.len, c.requires.room, length-paired s.granules.items s.cells.items s.same_count);
      distinct = subst (λ granules. IsTrue (are_distinct granules)) (sym c.push.ensures.items)
          (distinct-push s.granules.items c.args.pa s.distinct apart);
    }

pub returns : goal.returns
unfolding pair_cells
returns c =
    let s = c.args.self.now in
    (λ i. paired (c.push.ensures.items i) (c.push-2.ensures.items i)) ∙ paired-push s.granules.items s.cells.items c.args.pa c.args.cell s.same_count
