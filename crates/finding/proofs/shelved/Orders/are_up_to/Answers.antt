-- Order by order.
use Rattle.std.proofs.Common.{◌+◌, ◌∙◌, List, refl, subst}
use Rattle.std.proofs.lemmas.List.{take_all}
use Rattle.std.proofs.lemmas.List.Elements.{All-more}
use Rattle.finding.specs.Begun.{AllReturned, HasReturned}
use Rattle.finding.specs.declared.shelved.Shelved.{Shelved}
use Rattle.finding.proofs.shelved.Orders.are_up_to.Goals as goal

pub orders-preserved : goal.orders-preserved
orders-preserved c =
    let has = λ (order : Shelved). HasReturned c.args.history.now.recorded order.front.counts (c.args.place + 1) in
    All-more has c.as_slice-order-items.result.now c.orders.order-index c.order-item.result c.orders-test.true c.orders.invariant
    (subst has c.order-item.is (c.if-not-is_up_to.ensures refl))

pub returns : goal.returns
returns c = λ _.
    let all = λ (orders : List Shelved). AllReturned c.args.history.now.recorded orders (c.args.place + 1) in
    subst all (take_all c.orders.order-index c.as_slice-order-items.result.now c.orders-test.false ∙ c.as_slice-order-items.ensures.value)
    c.orders.invariant
