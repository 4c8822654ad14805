use Rattle.spec_machine.proofs.Common.{sym}
use Rattle.spec_machine.proofs.machine.Machine.offer_any.Goals as goal

pub offer_outside-requires : goal.offer_outside-requires
offer_outside-requires c = record { outside = sym c.in-None.ensures.is; call = c.call-call.ensures }

pub offer_inside-requires : goal.offer_inside-requires
offer_inside-requires c = record { inside = sym c.in-Some.ensures.is; at = c.in-Some.ensures.at; call = c.call-call.ensures }
