use Rattle.std.proofs.Common.{◌++◌}
use Rattle.certificate.proofs.PieceLemmas.{IsNoLine-long}
use Rattle.certificate.proofs.beginning.begun_line.Goals as goal

pub returns-then-not-extend-clause-none : goal.returns-then-not-extend-clause-none
returns-then-not-extend-clause-none c = IsNoLine-long (c.args.begun.now ++ c.args.last.now) (c.extend.ensures.too_long c.if-not-extend.true)
