-- Where the items of granules stand.
use Rattle.std.specs.Prelude.{◌≡◌, ◌⊎◌, ℕ, zero, suc, ◌+◌, ◌-◌, ◌*◌, ◌/◌, ◌%◌, ◌≤◌, nat_lt, if◌then◌else◌, List, length, Option, Some, None, slice_index_or}
use Rattle.spec_machine.specs.declared.granule_places.GranulePlaces.{GranulePlaces}

-- the place of a granule that is so many behind the first ones, by its block's part of the places, counted from 1
abbrev pub far_place : ℕ → ℕ → ℕ → Option ℕ
far_place near far zero = None
far_place near far (suc start) = Some (near + 512 * start + far % 512)

-- the place of one of so many granules, by the parts of all blocks that are behind the first granules
abbrev pub place_by : ℕ → ℕ → List ℕ → ℕ → Option ℕ
place_by near granules starts number =
    if nat_lt number near then Some number
    else (if nat_lt number granules then far_place near (number - near) (slice_index_or starts ((number - near) / 512) 0) else None)

unfoldable pub place_in : GranulePlaces → ℕ → Option ℕ
place_in places number = place_by places.near places.granules places.starts.items number

-- how many places there are
unfoldable pub count_in : GranulePlaces → ℕ
count_in places = places.near + 512 * places.made

-- how many there are where every granule has one
unfoldable pub room_in : GranulePlaces → ℕ
room_in places = places.near + 512 * length places.starts.items

-- A block more has places, which stand behind the old ones.
pub record IsFurther (old new : GranulePlaces) : Type 0 where
  pub kept : (n place : ℕ) → place_in old n ≡ Some place → place_in new n ≡ Some place
  pub fresh : (n place : ℕ) → place_in new n ≡ Some place → (place_in old n ≡ Some place) ⊎ (count_in old ≤ place)
  pub count : count_in new ≡ count_in old + 512
  pub room : room_in new ≡ room_in old
  pub granules : new.granules ≡ old.granules
  pub within : count_in new ≤ room_in new
