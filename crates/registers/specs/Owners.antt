-- Whose realm's the RECs of a granule are, and which register a slot of the table has.
use Rattle.std.specs.Prelude.{ℕ, ◌+◌, ◌*◌, ◌/◌, ◌%◌, ◌==◌, if◌then◌else◌, Bool, false, List, Option, Some, None, slice_index_or}
use Rattle.verdict_laws.specs.Registers.{Register}

-- the realm that the list has for the granule of a REC
unfoldable pub owner_in : List (Option ℕ) → ℕ → Option ℕ
owner_in owners rec = if rec % 4096 == 0 then slice_index_or owners (rec / 4096) None else None

abbrev pub is_owner : Option ℕ → ℕ → Bool
is_owner None rd = false
is_owner (Some owner) rd = owner == rd

-- the realm of the REC that a CPU entered last
abbrev pub owner_of : List (Option ℕ) → Option ℕ → Option ℕ
owner_of owners None = None
owner_of owners (Some rec) = owner_in owners rec

-- the RECs that are the realm's
abbrev pub mine_of : List (Option ℕ) → ℕ → ℕ → Bool
mine_of owners rd rec = is_owner (owner_in owners rec) rd

-- each realm has four slots in a row, by the granule of its descriptor
abbrev pub rd_at : ℕ → ℕ
rd_at slot = slot / 4 * 4096

abbrev pub register_at : ℕ → Register
register_at slot = record { rd = rd_at slot; index = slot % 4 + 1 }

abbrev pub mine_at : List (Option ℕ) → ℕ → ℕ → Bool
mine_at owners slot = mine_of owners (rd_at slot)
