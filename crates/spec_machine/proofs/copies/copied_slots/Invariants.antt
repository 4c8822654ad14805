-- The slots so far are copied, and there is room for the others.
use Rattle.std.proofs.Common.{◌≡◌, take, vec_len, vec_capacity}
use Rattle.spec_machine.proofs.copies.copied_slots.Given as goal

abbrev pub invariant-loop-slot : goal.invariant-loop-slot
invariant-loop-slot l = record {
  items : l.copy.items ≡ take l.slot-index l.slots;
  count : vec_len l.copy ≡ l.slot-index;
  room : vec_capacity l.copy ≡ l.room;
}
