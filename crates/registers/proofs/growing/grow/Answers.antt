-- One after another, until none is left or there are too many.
use Rattle.std.proofs.Common.{arith, leb-true, length, refl}
use Rattle.std.proofs.lemmas.Option.{slice_get_read, slice_get_within}
use Rattle.registers.proofs.Grown.{AllGrow-first, FirstGrow-next}
use Rattle.registers.proofs.growing.grow.Goals as goal

pub returns-then-index-len-clause-all : goal.returns-then-index-len-clause-all
returns-then-index-len-clause-all c = λ _.
    AllGrow-first c.args.history.now.recorded.events c.args.opens.now c.loop-index.begun.items c.loop-index.index
    (omega (arith, c.len.ensures, c.if-index-len.true)) c.loop-index.invariant.grown

pub loop-index-preserved : goal.loop-index-preserved
loop-index-preserved c =
    let old = c.loop-index.begun.items in
    let new = c.grow_by_each.new.begun.items in
    let index = c.loop-index.index in
    let one = c.index.result.now in
    let kept = c.in_ok-grow_by_each.ensures.kept in
    let at = slice_get_read old (length old) index one refl (omega (arith, c.if-index-len.false, c.len.ensures)) c.index.ensures in
    record {
      kept = λ i possibility was. kept i possibility (c.loop-index.invariant.kept i possibility was);
      within = omega (arith, slice_get_within new index one (kept index one at));
      grown =
          FirstGrow-next c.args.history.now.recorded.events c.args.opens.now old new kept index one (slice_get_within old index one at) at
          c.loop-index.invariant.grown c.in_ok-grow_by_each.ensures.grown;
    }

pub returns-clause-all : goal.returns-clause-all
returns-clause-all c = λ few.
    AllGrow-first c.args.history.now.recorded.events c.args.opens.now c.loop-index.begun.items c.loop-index.index
    (omega (arith, leb-true c.len-2.result c.args.most few, c.len-2.ensures, c.loop-index-test.false)) c.loop-index.invariant.grown
