-- The realm's slots before this one are dropped, and the others are the old ones.
use Rattle.std.proofs.Common.{◌≡◌, ◌⊎◌, ◌≤◌, ℕ, Some}
use Rattle.std.specs.List.{slice_get}
use Rattle.registers.specs.declared.slots.Slot.{Slot}
use Rattle.registers.specs.declared.slots.Slot.TheVariants.{Dropped}
use Rattle.registers.proofs.slots.drop_realm.Given as goal

abbrev pub invariant-slots : goal.invariant-slots
invariant-slots l = (k : ℕ) (slot : Slot) → slice_get l.slots.items k ≡ Some slot
    → (slot ≡ Dropped) ⊎ ((slice_get l.fn.slots.items k ≡ Some slot) × (l.first ≤ k → l.slot ≤ k))
