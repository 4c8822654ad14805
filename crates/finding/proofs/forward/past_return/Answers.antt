-- By those that are sorted at the return.
use Rattle.std.proofs.Common.{arith}
use Rattle.finding.proofs.Rounds.{AreOrders-sorted}
use Rattle.finding.proofs.forward.past_return.Goals as goal

pub returns : goal.returns
returns g c = (
  rw c.in-Some.is at
      (AreOrders-sorted c.args.history.now.recorded c.args.kept c.args.kept c.in_ok-round.round c.in_ok-round.machine c.in_ok-next.next
      c.in_ok-round.ensures.base (record { shelved = c.requires.shelved; covers = λ lost. lost }) c.in_ok-round.ensures.covers
      c.in_ok-next.ensures),
  c.are_up_to-2.ensures c.if-not-are_up_to.false,
  omega arith,
)
