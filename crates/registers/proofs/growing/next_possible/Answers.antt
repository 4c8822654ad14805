-- Those begun, and what they come to.
use Rattle.registers.proofs.Grown.{IsAmong-kept}
use Rattle.registers.proofs.growing.next_possible.Goals as goal

pub returns : goal.returns
returns c =
    let begun = c.grow.new.begun.items in
    let next = c.end_each.new.next.items in (
      begun,
      record {
        stays = λ possibility among placed.
            IsAmong-kept c.in_ok-next.next.items next _ c.in_ok-end_each.ensures.kept (c.in_ok-next.ensures possibility among placed);
        begins = λ possibility among absent.
            IsAmong-kept c.in_ok-begun.begun.items begun possibility c.in_ok-all.ensures.kept (c.in_ok-begun.ensures possibility among absent);
        grows = λ possibility one among of absent fits. c.in_ok-all.ensures.all c.if-not-all.false possibility among one of absent fits;
        ends = λ possibility among fits. c.in_ok-end_each.ensures.ended possibility (rw c.as_slice.ensures.value among) fits;
      },
    )
