-- The cells that slots stand for: the slot of a REC has the REC's number, and the REC itself stands beside the slots.
use Rattle.std.specs.Prelude.{◌≡◌, ℕ, zero, suc, ◌<◌, ◌≤◌, List, length, map, slice_set, slice_index_or}
use Rattle.std.specs.List.{sum_by}
use Rattle.rmm_spec.specs.Cell as spec
use Rattle.rmm_spec.specs.Lookup.{no_rec}
use Rattle.spec_machine.specs.declared.slot.HousedRec.{HousedRec}
use Rattle.spec_machine.specs.declared.slot.Slot.{Slot}
use Rattle.spec_machine.specs.declared.slot.Slot.TheVariants.{Undelegated, Delegated, Rd, Rec, RecAux, Data, Rtt}

-- the cells at all places, and how many places there is room for
pub record HeldCells : Type 0 where
  pub items : List spec.Cell
  pub room : ℕ

-- the cell at a place
abbrev pub cell_at : HeldCells → ℕ → spec.Cell
cell_at held place = slice_index_or held.items place spec.Undelegated

-- another cell is put in a place
abbrev pub with_cell : HeldCells → ℕ → spec.Cell → HeldCells
with_cell held place cell = record { items = slice_set held.items place cell; room = held.room }

-- the cell at a place is changed
abbrev pub changed_in : HeldCells → ℕ → (spec.Cell → spec.Cell) → HeldCells
changed_in held place change = with_cell held place (change (cell_at held place))

-- ---- slots

-- the number of the REC that a slot has, counted from 1, or 0
abbrev pub number_of : Slot → ℕ
number_of (Rec number) = suc number
number_of _ = 0

-- the same of the slot at a place
abbrev pub number_at : List Slot → ℕ → ℕ
number_at slots place = number_of (slice_index_or slots place Undelegated)

-- how many RECs a slot has, by that number
abbrev pub one_of : ℕ → ℕ
one_of zero = 0
one_of (suc number) = 1

abbrev pub recs_in : Slot → ℕ
recs_in slot = one_of (number_of slot)

-- what is read past the last REC
abbrev pub nowhere : HousedRec
nowhere = record { rec = no_rec; home = 0 }

-- the REC of a number, and its home
abbrev pub housed_at : List HousedRec → ℕ → HousedRec
housed_at recs number = slice_index_or recs number nowhere

-- the cell that a slot stands for
abbrev pub seen : List HousedRec → Slot → spec.Cell
seen recs Undelegated = spec.Undelegated
seen recs Delegated = spec.Delegated
seen recs (Rd realm) = spec.Rd realm
seen recs (Rec number) = spec.Rec (housed_at recs number).rec
seen recs RecAux = spec.RecAux
seen recs Data = spec.Data
seen recs (Rtt table) = spec.Rtt table

unfoldable pub cells_held : List Slot → List HousedRec → List spec.Cell
cells_held slots recs = map (seen recs) slots

abbrev pub held_in : List Slot → List HousedRec → ℕ → HeldCells
held_in slots recs room = record { items = cells_held slots recs; room = room }

-- A slot that has a REC's number is that REC's home, and the home of each REC has its number. There are as many RECs as slots that have one.
pub record AreHoused (slots : List Slot) (recs : List HousedRec) : Type 0 where
  pub numbered : (place number : ℕ) → number_at slots place ≡ suc number → (number < length recs) × ((housed_at recs number).home ≡ place)
  pub at_home : (number : ℕ) → number < length recs → number_at slots (housed_at recs number).home ≡ suc number
  pub counted : length recs ≡ sum_by recs_in slots

-- the same, and there is room for as many RECs as slots
pub record AreKept (slots : List Slot) (recs : List HousedRec) (room rec_room : ℕ) : Type 0 where
  pub housed : AreHoused slots recs
  pub rooms : room ≤ rec_room
