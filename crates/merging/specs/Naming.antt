-- Events whose granules have names, and the names that they get.
use Rattle.std.specs.Prelude.{⊤, ◌≡◌, ℕ, ◌<◌, ◌≤◌, nat_lt, if◌then◌else◌, List, [], ◌∷◌, ◌++◌, length, Option}
use Rattle.rmm_spec.specs.declared.function_id.FunctionId.{FunctionId}
use Rattle.merging.specs.Table.{Happened}
use Rattle.merging.specs.Names.{names_from}
use Rattle.merging.specs.Renamed.{lasts_with, no_lasts, moment_addresses, renamed_slot}
use Rattle.merging.specs.declared.names.Limits.{Limits}
use Rattle.merging.specs.declared.naming.Naming.{Naming}
use Rattle.merging.specs.declared.naming.Naming.TheVariants.{AsRecorded, ByNames}
use Rattle.merging.specs.declared.naming.NamingFault.{NamingFault}
use Rattle.merging.specs.declared.naming.NamingFault.TheVariants as fault

-- the addresses of moments in the order of their stamps
abbrev pub addresses_from : ℕ → (ℕ → Option FunctionId) → List Happened → List ℕ
addresses_from memory lasts [] = []
addresses_from memory lasts (slot ∷ slots) =
    moment_addresses memory (lasts slot.cpu) slot.moment ++ addresses_from memory (lasts_with lasts slot) slots

-- in the order of their first appearances
abbrev pub names_of : ℕ → List Happened → List ℕ
names_of memory slots = names_from [] (addresses_from memory no_lasts slots)

-- a moment as it is told, of a CPU whose last call was of that function
abbrev pub named_slot : Naming → ℕ → Option FunctionId → Happened → Happened
named_slot AsRecorded granules last slot = slot
named_slot (ByNames names) granules last slot = renamed_slot names granules last slot

-- of a CPU that is one of all
abbrev pub told_slot : Naming → ℕ → (ℕ → Option FunctionId) → Happened → Happened
told_slot naming granules lasts slot = named_slot naming granules (lasts slot.cpu) slot

abbrev pub named_from : Naming → ℕ → (ℕ → Option FunctionId) → List Happened → List Happened
named_from naming granules lasts [] = []
named_from naming granules lasts (slot ∷ slots) =
    named_slot naming granules (lasts slot.cpu) slot ∷ named_from naming granules (lasts_with lasts slot) slots

-- events as they are told, on a machine of so many granules
abbrev pub events_named : Naming → ℕ → List Happened → List Happened
events_named naming granules slots = named_from naming granules no_lasts slots

-- how many granules a machine needs for the names, one at least, and else those that were recorded
abbrev pub own_granules : Naming → ℕ → ℕ
own_granules AsRecorded recorded = recorded
own_granules (ByNames names) recorded = if nat_lt 0 (length names) then length names else 1

-- the functions of all CPUs' last calls after some moments
abbrev pub lasts_after : (ℕ → Option FunctionId) → List Happened → ℕ → Option FunctionId
lasts_after lasts [] = lasts
lasts_after lasts (slot ∷ slots) = lasts_after (lasts_with lasts slot) slots

-- The addresses of the moments before one can have names, and with those of that one, of this line, they are too many.
pub record HasTooMany (limits : Limits) (slots : List Happened) (line : ℕ) : Type 0 where
  pub before : List Happened
  pub slot : Happened
  pub later : List Happened
  pub are_slots : slots ≡ before ++ slot ∷ later
  pub is_line : line ≡ slot.line
  pub fit : length (names_of limits.memory before) ≤ limits.most
  pub too_many : limits.most < length (names_of limits.memory (before ++ slot ∷ []))

abbrev pub IsUnnamed : Limits → List Happened → NamingFault → Type 0
IsUnnamed limits slots (fault.TooMany line) = HasTooMany limits slots line
IsUnnamed limits slots fault.NoMemory = 0 < length slots

-- of the next moment, where addresses have these names so far
abbrev pub IsUnnamedNext : Limits → List ℕ → (ℕ → Option FunctionId) → Happened → NamingFault → Type 0
IsUnnamedNext limits names lasts slot (fault.TooMany line) =
    (line ≡ slot.line) × (limits.most < length (names_from names (moment_addresses limits.memory (lasts slot.cpu) slot.moment)))
IsUnnamedNext limits names lasts slot fault.NoMemory = ⊤
