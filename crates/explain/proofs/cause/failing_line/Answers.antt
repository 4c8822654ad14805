-- The line is there.
use Rattle.explain.proofs.Common.{arith, slice_get_within}
use Rattle.explain.proofs.cause.failing_line.Goals as goal

pub line-requires : goal.line-requires
line-requires c =
    let step = c.requires in
    omega (arith, step.2, slice_get_within c.args.certificate.now.lines step.0 step.1 step.3)
