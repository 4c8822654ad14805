-- One order more.
use Rattle.finding.proofs.Common.{History, Passes, State, subst, sym}
use Rattle.std.specs.List.{All}
use Rattle.std.proofs.lemmas.List.Elements.{All-push}
use Rattle.certificate.specs.declared.certificate.Certificate.{Certificate}
use Rattle.finding.proofs.survivors.first_orders.Goals as goal

abbrev passes : History → Certificate → Type 0
passes history order = (state : State) × Passes history order.lines state

pub orders-preserved : goal.orders-preserved
orders-preserved g c =
    let history = c.args.history.now.recorded in
    subst (All (passes history)) (sym c.in_ok-push.ensures.items)
    (All-push (passes history) c.orders.told.items c.in_ok-passing.passing c.orders.invariant c.in_ok-passing.ensures)
