-- The slots so far stand after the others.
use Rattle.std.proofs.Common.{◌≡◌, ◌+◌, ◌++◌, replicate, vec_len, vec_capacity}
use Rattle.spec_machine.specs.declared.slot.Slot.TheVariants.{Undelegated}
use Rattle.spec_machine.proofs.slot_list.push_free.Given as goal

abbrev pub invariant-loop : goal.invariant-loop
invariant-loop l = record {
  items : l.slots.items ≡ l.fn.slots.items ++ replicate l.counter Undelegated;
  len : vec_len l.slots ≡ vec_len l.fn.slots + l.counter;
  capacity : vec_capacity l.slots ≡ vec_capacity l.fn.slots;
}
