-- No call that isn't kept has changed it.
use Rattle.std.proofs.Common.{inr, sym}
use Rattle.slicing.proofs.UnusedLaws.{IsUntouched-quiet}
use Rattle.slicing.proofs.unused.is_unused.Goals as goal

pub returns-then-not-lent : goal.returns-then-not-lent
returns-then-not-lent c is noted early = inr (inr (
  IsUntouched-quiet _ c.args.plan.now c.args.granule (c.are_quiet.ensures is) early,
  sym (c.if-not-lent.ensures noted),
))
