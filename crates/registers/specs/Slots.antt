-- What is known of the registers at a place.
use Rattle.std.specs.Prelude.{⊤, ◌≡◌, ◌⊎◌, ◌==◌, ℕ, ◌+◌, List, [], ◌∷◌, Option, Some, slice_get}
use Rattle.rmm_spec.specs.declared.call.Call.{Call}
use Rattle.rmm_spec.specs.declared.call.Call.TheVariants as call
use Rattle.rmm_spec.specs.HistoryText.{History}
use Rattle.verdict_laws.specs.Order.{LeadsNowhere}
use Rattle.verdict_laws.specs.Registers.{AreMine, HaveParts, Possibility, at_first}
use Rattle.registers.specs.declared.scan.Scan.{Scan}
use Rattle.registers.specs.declared.scan.Step.{Step}
use Rattle.registers.specs.declared.scan.Step.TheVariants.{Lost, On, Unknown}
use Rattle.registers.specs.declared.slots.Slot.{Slot}
use Rattle.registers.specs.declared.slots.Slot.TheVariants.{AtFirst, Dropped, Kept}
use Rattle.registers.specs.Cpus.{AreCpus}
use Rattle.registers.specs.Owners.{mine_at, rd_at, register_at}

-- these possibilities are those of the slot's register, whose RECs are known
pub record ArePossible (history : History) (owners : List (Option ℕ)) (place slot : ℕ) (possibilities : List Possibility) : Type 0 where
  pub mine : AreMine history.events (register_at slot) (mine_at owners slot) place
  pub parts : HaveParts history (register_at slot) (mine_at owners slot) place possibilities

abbrev pub IsSlot : History → List (Option ℕ) → ℕ → ℕ → Slot → Type 0
IsSlot history owners place slot AtFirst = ArePossible history owners place slot (at_first ∷ [])
IsSlot history owners place slot (Kept possible) = ArePossible history owners place slot possible.items
IsSlot history owners place slot Dropped = ⊤

-- so of the slot with that number, where there is one
abbrev pub IsSlotOf : History → List (Option ℕ) → ℕ → List Slot → ℕ → Type 0
IsSlotOf history owners place slots k = (slot : Slot) → slice_get slots k ≡ Some slot → IsSlot history owners place k slot

abbrev pub AreSlots : History → List (Option ℕ) → ℕ → List Slot → Type 0
AreSlots history owners place slots = (k : ℕ) → IsSlotOf history owners place slots k

pub record IsScan (history : History) (owners : List (Option ℕ)) (place : ℕ) (scan : Scan) : Type 0 where
  pub cpus : AreCpus history.events place scan.cpus
  pub slots : AreSlots history owners place scan.slots.items

-- what is known of all that is left after the place
abbrev pub IsAfter : History → List (Option ℕ) → ℕ → Scan → Step → Type 0
IsAfter history owners place scan On = IsScan history owners (place + 1) scan
IsAfter history owners place scan Lost = LeadsNowhere history []
IsAfter history owners place scan Unknown = ⊤

-- a slot that is left is an old one, and the call asks for no REC or for one whose owner is known
abbrev pub IsAsked : List (Option ℕ) → ℕ → Call → Type 0
IsAsked owners k (call.RecCreate rd rec mpidr flags aux0 aux1) = mine_at owners k rec ≡ (rd == rd_at k)
IsAsked owners k _ = ⊤

abbrev pub AreAsked : List (Option ℕ) → Call → List Slot → List Slot → Type 0
AreAsked owners made old new = (k : ℕ) (slot : Slot) → slice_get new k ≡ Some slot
    → (slot ≡ Dropped) ⊎ ((slice_get old k ≡ Some slot) × IsAsked owners k made)
