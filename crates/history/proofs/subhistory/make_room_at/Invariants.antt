use Rattle.std.proofs.Common.{◌≡◌, ℕ, ◌<◌, ◌≤◌, get_or, length}
use Rattle.history.specs.Room.{spare}
use Rattle.history.specs.declared.subhistory.Subhistory.{Subhistory}
use Rattle.history.proofs.subhistory.make_room_at.Given as goal

abbrev pub invariant-loop-cpu : goal.invariant-loop-cpu
invariant-loop-cpu l = record {
  counted : length l.subhistories ≡ 8;
  kept : (cpu : ℕ) (other : Subhistory)
      → cpu < 8 → (get_or l.subhistories cpu other).places.items ≡ (get_or l.initial.subhistories cpu other).places.items;
  grows : (cpu : ℕ) (other : Subhistory)
      → cpu < 8 → spare (get_or l.initial.subhistories cpu other).places ≤ spare (get_or l.subhistories cpu other).places;
  made : (cpu : ℕ) (other : Subhistory) → cpu < l.cpu → 1 ≤ spare (get_or l.subhistories cpu other).places;
}
