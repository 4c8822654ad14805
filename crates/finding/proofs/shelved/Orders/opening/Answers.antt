-- No call stands in the one order.
use Rattle.finding.proofs.Common.{◌++◌, ◌∙◌, ◌∷◌, List, [], ap, opening}
use Rattle.std.proofs.Common.{true}
use Rattle.verdict_laws.specs.Order.{LeadsNowhere}
use Rattle.finding.specs.declared.shelved.Shelved.{Shelved}
use Rattle.finding.proofs.Shelving.{AreOrders-one, IsShelved-nil, nowhere-nil}
use Rattle.finding.proofs.shelved.Orders.opening.Goals as goal

pub returns : goal.returns
returns c =
    let history = c.args.history.now.recorded in
    let machine = c.in_ok-machine.machine in
    let order : Shelved = record { front = c.new-2.result; last = 0; claims = c.empty.result; patch = c.none.result } in
    let opens = c.in_ok-machine.ensures.opening ∙ ap opening c.config.ensures in
    AreOrders-one history (record { begun = c.push.new.self; complete = true; trail = c.new-3.result; machine = machine }) order
    (LeadsNowhere history [])
    (c.in_ok-push.ensures.items ∙ ap (λ (xs : List Shelved). xs ++ order ∷ []) c.new-begun.ensures.items)
    (IsShelved-nil history machine order c.new-2.ensures.front c.new-2.ensures.counts opens c.none.ensures)
    (nowhere-nil history machine order c.new-2.ensures.front c.new-2.ensures.counts opens c.none.ensures)
