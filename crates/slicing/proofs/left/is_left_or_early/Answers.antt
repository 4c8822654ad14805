-- The call that is found leaves the fact, or comes apart from it.
use Rattle.std.proofs.Common.{inr}
use Rattle.slicing.specs.Calls.{events_to}
use Rattle.slicing.proofs.FactLaws.{IsLeftAt-passed}
use Rattle.slicing.proofs.left.is_left_or_early.Goals as goal

pub returns-then-is_passed_by : goal.returns-then-is_passed_by
returns-then-is_passed_by c is cpu number command is_called =
    let events = events_to c.args.count c.args.history.now.recorded.events in
    inr (IsLeftAt-passed c.args.turn events c.args.at cpu number command c.in-Some.call (c.in-Some.ensures.some) is_called c.args.fact c.args.place
    (c.is_passed_by.ensures is))
