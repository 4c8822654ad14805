-- Each granule that is lent was looked at.
use Rattle.std.proofs.Common.{arith, below_more, refl}
use Rattle.std.proofs.lemmas.Option.{slice_get_within}
use Rattle.slicing.proofs.PlanLaws.{AreLent-noted}
use Rattle.slicing.proofs.cut.are_lent.Goals as goal

pub loop-index-preserved : goal.loop-index-preserved
loop-index-preserved c = below_more _ _ c.loop-index.invariant (c.if-not-is_lent_at.ensures refl)

pub returns-clause-granules : goal.returns-clause-granules
returns-clause-granules c is =
    let lent = c.args.plan.now.lent in
    let all = c.loop-index-test.false in
    AreLent-noted c.args.history.now.recorded.config.granules c.args.plan.now
    (λ index granule at.
    let within = slice_get_within lent.items index granule at in
    (c.loop-index.invariant index (omega (arith, within, all, c.len-index-end.ensures, lent.ok.0)) granule at).0)
    (λ index granule at.
    let within = slice_get_within lent.items index granule at in
    (c.loop-index.invariant index (omega (arith, within, all, c.len-index-end.ensures, lent.ok.0)) granule at).1)

pub returns-clause-noted : goal.returns-clause-noted
returns-clause-noted c is index granule at =
    let lent = c.args.plan.now.lent in
    let within = slice_get_within lent.items index granule at in
    let all = c.loop-index-test.false in
    (c.loop-index.invariant index (omega (arith, within, all, c.len-index-end.ensures, lent.ok.0)) granule at).1
