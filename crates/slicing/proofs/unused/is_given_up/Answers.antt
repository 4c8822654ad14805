-- The call that is found is the last on the granule.
use Rattle.std.proofs.Common.{sym}
use Rattle.slicing.proofs.UnusedLaws.{IsGivenUp-done}
use Rattle.slicing.proofs.unused.is_given_up.Goals as goal

pub returns-then-leaves_unused : goal.returns-then-leaves_unused
returns-then-leaves_unused c is =
    IsGivenUp-done _ c.args.plan.now c.args.giver c.args.place c.args.granule c.args.lent c.in-Some.done c.in-Some.ensures
    (sym (c.if-leaves_unused.ensures)) (c.are_quiet.ensures is)
