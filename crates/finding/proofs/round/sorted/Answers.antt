-- Order by order.
use Rattle.std.proofs.Common.{refl}
use Rattle.undo_log.specs.Patches.{standing_of}
use Rattle.finding.proofs.Rounds.{AllLost-push, AllShelved-pop, Covers-lacking, Covers-next, IsRound-lacking, IsRound-next, taken-lacking, taken-next}
use Rattle.finding.proofs.round.sorted.Goals as goal

pub is_up_to-requires : goal.is_up_to-requires
is_up_to-requires c =
    let popped =
    AllShelved-pop c.args.history.now.recorded (standing_of c.args.kept.machine) c.orders.left.items c.pop.new.self.items
    c.in-Some.order c.in-Some.ensures.items c.orders.invariant.left in
    record { begun = (_, popped.1.begun) }

pub orders-preserved-in-Continue-1 : goal.orders-preserved-in-Continue-1
orders-preserved-in-Continue-1 c =
    let history = c.args.history.now.recorded in
    let base = standing_of c.args.kept.machine in
    let old = c.orders.round in
    let order = c.in-Some.order in
    let popped = AllShelved-pop history base c.orders.left.items c.pop.new.self.items order c.in-Some.ensures.items c.orders.invariant.left in
    record {
      round = IsRound-next history base old _ order refl c.in_ok-push.ensures.items refl c.orders.invariant.round popped.1;
      left = popped.0;
      covers = λ lost left.
          c.orders.invariant.covers (Covers-next history base old _ order refl c.in_ok-push.ensures.items refl lost)
          (AllLost-push history base c.pop.new.self.items c.orders.left.items order c.in-Some.ensures.items left
          (taken-next history base old _ order refl c.in_ok-push.ensures.items lost));
    }

pub orders-preserved : goal.orders-preserved
orders-preserved c =
    let history = c.args.history.now.recorded in
    let base = standing_of c.args.kept.machine in
    let old = c.orders.round in
    let order = c.in-Some.order in
    let popped = AllShelved-pop history base c.orders.left.items c.pop.new.self.items order c.in-Some.ensures.items c.orders.invariant.left in
    record {
      round = IsRound-lacking history base old _ order c.in_ok-push-2.ensures.items refl refl c.orders.invariant.round popped.1;
      left = popped.0;
      covers = λ lost left.
          c.orders.invariant.covers (Covers-lacking history base old _ order c.in_ok-push-2.ensures.items refl refl lost)
          (AllLost-push history base c.pop.new.self.items c.orders.left.items order c.in-Some.ensures.items left
          (taken-lacking history base old _ order c.in_ok-push-2.ensures.items refl lost));
    }
