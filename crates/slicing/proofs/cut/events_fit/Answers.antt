-- One place more, and each was looked at.
use Rattle.std.proofs.Common.{arith, below_more, refl}
use Rattle.slicing.proofs.cut.events_fit.Goals as goal

pub loop-place-preserved : goal.loop-place-preserved
loop-place-preserved c =
    below_more _ _ c.loop-place.invariant (λ behind. (c.if-not-call_fits.ensures refl, c.if-not-return_fits.ensures refl))

pub returns : goal.returns
returns c is place behind before =
    let all = c.loop-place-test.false in
    c.loop-place.invariant place (omega (arith, before, all)) behind
