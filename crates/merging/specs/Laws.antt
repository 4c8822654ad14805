-- What names and roles keep.
use Rattle.std.specs.Prelude.{◌≡◌, ℕ, ◌+◌, ◌*◌, ◌<◌, ◌≤◌, true, List, [], ◌∷◌, length, map, slice_index, IsSome}
use Rattle.std.specs.List.{AllByRecursion}
use Rattle.rmm_spec.specs.declared.function_id.FunctionId.{FunctionId}
use Rattle.rmm_spec.specs.Call.{call_from}
use Rattle.rmm_spec.specs.Step.Terms.{named}
use Rattle.merging.specs.Roles.{command_roles}
use Rattle.merging.specs.Names.{is_granule, number_in, names_from, called}
use Rattle.merging.specs.declared.roles.Role.{Role}
use Rattle.merging.specs.declared.roles.Role.TheVariants.{Granule, Page, Other}

-- the places of granules, from a place on
abbrev pub granule_places : ℕ → List Role → List ℕ
granule_places place [] = []
granule_places place (Granule ∷ roles) = place ∷ granule_places (place + 1) roles
granule_places place (Page ∷ roles) = granule_places (place + 1) roles
granule_places place (Other ∷ roles) = granule_places (place + 1) roles

-- the words that a command names as granules are those at these places
abbrev pub NamesAtPlaces : FunctionId → List ℕ → Type 0
NamesAtPlaces function words =
    map (λ need. need.granule) (named (call_from function words)) ≡ map (slice_index words) (granule_places 0 (command_roles function))

-- no two addresses with a name have the same one
abbrev pub AreApart : List ℕ → ℕ → Type 0
AreApart names granules = (address other : ℕ) → IsSome (number_in names address) → IsSome (number_in names other)
    → called names granules Granule address ≡ called names granules Granule other → address ≡ other

-- none of them has that of one past the last
abbrev pub AreBelow : List ℕ → ℕ → Type 0
AreBelow names granules = (address : ℕ) → IsSome (number_in names address) → length names ≤ granules
    → called names granules Granule address < 4096 * granules

-- a granule of the memory has a name
abbrev pub IsNamedGranule : ℕ → List ℕ → ℕ → Type 0
IsNamedGranule memory names word = is_granule memory word ≡ true → IsSome (number_in names word)

-- Where granules' addresses have names, no two words for pages are called alike: one that is no granule keeps its value, which is no name.
abbrev pub ArePagesApart : ℕ → List ℕ → ℕ → Type 0
ArePagesApart memory addresses granules = AllByRecursion (λ a. is_granule memory a ≡ true) addresses → (word other : ℕ)
    → IsNamedGranule memory (names_from [] addresses) word → IsNamedGranule memory (names_from [] addresses) other
    → called (names_from [] addresses) granules Page word ≡ called (names_from [] addresses) granules Page other → word ≡ other
