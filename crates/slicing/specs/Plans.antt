-- What a plan says of each event and of each granule.
use Rattle.std.specs.Prelude.{◌≡◌, ℕ, ◌-◌, ◌/◌, ◌%◌, ◌==◌, if◌then◌else◌, nat_lt, Bool, false, List, Option, None, Some, slice_get, slice_index_or}
use Rattle.slicing.specs.declared.plan.Mark.{Mark}
use Rattle.slicing.specs.declared.plan.Plan.{Plan}

-- the number of the call of the event at a place, if it is kept
unfoldable pub number_at : Plan → ℕ → Option ℕ
number_at plan place = if nat_lt place plan.from then None else slice_index_or plan.numbers.items (place - plan.from) None

-- whether the call that is made at a place is made inside of a REC
unfoldable pub entered_at : Plan → ℕ → Bool
entered_at plan place = if nat_lt place plan.from then false else slice_index_or plan.entered.items (place - plan.from) false

-- nothing is known of what is no granule's address: a kept call may change it wherever it is made
abbrev pub unmarked : Mark
unmarked = record { first = 0; known = None; lending = None }

-- what is noted of the granule at an address
unfoldable pub mark_of : List Mark → ℕ → Mark
mark_of marks granule = if granule % 4096 == 0 then slice_index_or marks (granule / 4096) unmarked else unmarked

-- each granule that is lent is noted where it stands
abbrev pub AreNoted : Plan → Type 0
AreNoted plan = (index granule : ℕ) → slice_get plan.lent.items index ≡ Some granule → (mark_of plan.marks.items granule).lending ≡ Some index
