-- To the registers of all slots so far that are asked no call did anything.
use Rattle.std.proofs.Common.{◌≡◌, ◌⊎◌, ℕ, Some}
use Rattle.std.specs.List.{slice_get}
use Rattle.registers.specs.declared.slots.Slot.{Slot}
use Rattle.registers.specs.declared.slots.Slot.TheVariants.{AtFirst, Dropped}
use Rattle.registers.proofs.slots.first_slots.Given as goal

abbrev pub invariant-loop-slot : goal.invariant-loop-slot
invariant-loop-slot l = (k : ℕ) (slot : Slot) → slice_get l.slots.items k ≡ Some slot → (slot ≡ AtFirst) ⊎ (slot ≡ Dropped)
