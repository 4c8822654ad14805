-- The return is taken to all slots but those from this one on that are the realm's.
use Rattle.std.proofs.Common.{◌+◌, ◌<◌, ◌≤◌, ℕ}
use Rattle.registers.specs.Slots.{IsSlotOf}
use Rattle.registers.proofs.returns.return_to.Given as goal

abbrev pub invariant-slots : goal.invariant-slots
invariant-slots l = record {
  left : (k : ℕ) → l.slot ≤ k → k < l.first + 4
      → IsSlotOf l.setting.history.now.recorded l.setting.owners.now l.at.place l.slots.items k;
  taken : (k : ℕ) → (l.slot ≤ k → l.first + 4 ≤ k)
      → IsSlotOf l.setting.history.now.recorded l.setting.owners.now (l.at.place + 1) l.slots.items k;
}
