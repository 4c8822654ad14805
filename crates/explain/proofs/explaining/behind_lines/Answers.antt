-- A line further, or the end of the text.
use Rattle.std.proofs.Common.{◌-◌, suc, ◌≡◌, arith, subst}
use Rattle.explain.proofs.TextLines.{IsBehind, IsBehind-next, first_lines-few}
use Rattle.explain.proofs.explaining.behind_lines.Goals as goal

pub loop-left-preserved : goal.loop-left-preserved
loop-left-preserved c =
    let left : c.loop-left.left ≡ suc (c.loop-left.left - 1) = omega (arith, c.loop-left-test.true) in
    IsBehind-next c.args.text.now c.args.count (c.loop-left.left - 1) c.loop-left.rest.now c.in-Some.field-0-0.now c.in-Some.more.now
    c.in-Some.ensures.no_newline c.in-Some.ensures.line
    (subst (λ n. IsBehind c.args.text.now c.args.count n c.loop-left.rest.now) left c.loop-left.invariant)

pub returns-in-None : goal.returns-in-None
returns-in-None c =
    let left : c.loop-left.left ≡ suc (c.loop-left.left - 1) = omega (arith, c.loop-left-test.true) in
    first_lines-few c.args.text.now c.args.count (c.loop-left.left - 1) c.loop-left.rest.now c.in-None.ensures.unfinished
    (subst (λ n. IsBehind c.args.text.now c.args.count n c.loop-left.rest.now) left c.loop-left.invariant)
