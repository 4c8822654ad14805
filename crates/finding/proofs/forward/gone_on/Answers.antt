-- By the orders that went on up to the return.
use Rattle.std.proofs.Common.{◌+◌, ◌≤◌, arith}
use Rattle.std.proofs.lemmas.Result.{IfOk-weaker}
use Rattle.finding.proofs.Rounds.{IsFurther-before}
use Rattle.finding.proofs.forward.gone_on.Goals as goal

pub returns : goal.returns
returns g c =
    let place = c.in-Short.place in
    let below : place + 1 ≤ c.args.reach.until = let within = rw c.in-Short.is at c.in_ok-orders.ensures.within in omega (arith, within) in
    IfOk-weaker c.past_return.result _ _
    (IsFurther-before c.args.history.now.recorded c.args.kept c.in_ok-orders.field-0.orders (place + 1) c.args.reach.until
    c.in_ok-orders.ensures.orders below)
    c.past_return.ensures
