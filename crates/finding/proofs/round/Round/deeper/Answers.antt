-- Order by order.
use Rattle.std.proofs.Common.{◌∙◌, ap, subst, sym}
use Rattle.undo_log.specs.Patches.{IsWhole, Standing, patched, standing_of}
use Rattle.finding.proofs.Rounds.{AllLost-push, AllShelved-pop, Covers-back, IsRound-back, taken-back}
use Rattle.finding.proofs.Shelving.{IsBegun-shelved}
use Rattle.finding.proofs.round.Round.deeper.Goals as goal

pub at_hand-begun-requires : goal.at_hand-begun-requires
at_hand-begun-requires g c =
    let popped =
    AllShelved-pop c.args.history.now.recorded (standing_of c.args.machine) c.orders.left.items c.pop.new.self.items c.in-Some.order
    c.in-Some.ensures.items c.orders.invariant.left in
    subst (λ (b : Standing). IsWhole (patched c.in-Some.order.patch b)) (sym c.orders.invariant.there) popped.1.whole

pub take_each-requires-clause-begun : goal.take_each-requires-clause-begun
take_each-requires-clause-begun g c =
    let history = c.args.history.now.recorded in
    let base = standing_of c.args.machine in
    let order = c.in-Some.order in
    let popped = AllShelved-pop history base c.orders.left.items c.pop.new.self.items order c.in-Some.ensures.items c.orders.invariant.left in
    IsBegun-shelved base order c.at_hand-begun.result (c.at_hand-begun.ensures.there ∙ ap (patched order.patch) c.orders.invariant.there) history
    c.at_hand-begun.ensures.front popped.1.begun

pub orders-preserved : goal.orders-preserved
orders-preserved g c =
    let history = c.args.history.now.recorded in
    let base = standing_of c.args.machine in
    let old = c.orders.round in
    let order = c.in-Some.order in
    let begun = c.at_hand-begun.result in
    let taken = c.in_ok-machine.ensures in
    let same = c.at_hand-begun.ensures.base ∙ c.orders.invariant.there in
    let popped = AllShelved-pop history base c.orders.left.items c.pop.new.self.items order c.in-Some.ensures.items c.orders.invariant.left in
    record {
      there = taken.base ∙ same;
      round = IsRound-back history base old _ begun same taken.round;
      left = popped.0;
      covers = λ lost left.
          c.orders.invariant.covers (Covers-back history base old _ begun same taken.covers lost)
          (AllLost-push history base c.pop.new.self.items c.orders.left.items order c.in-Some.ensures.items left
          (taken-back history base old _ begun same order (c.at_hand-begun.ensures.there ∙ ap (patched order.patch) c.orders.invariant.there)
          c.at_hand-begun.ensures.front taken.taken lost));
    }
