-- What an address is called: the number of its first appearance, times the size of a granule.
use Rattle.std.specs.Prelude.{ℕ, suc, ◌+◌, ◌*◌, Bool, false, ◌&&◌, nat_lt, ◌==◌, if◌then◌else◌, List, [], ◌∷◌, ◌++◌, Option, Some, None, is_some, option_map, unwrap_or}
use Rattle.rmm_spec.specs.Walk.{is_multiple}
use Rattle.merging.specs.Roles.{role_at}
use Rattle.merging.specs.declared.roles.Role.{Role}
use Rattle.merging.specs.declared.roles.Role.TheVariants.{Granule, Page, Other}

-- a granule's address, in a memory that ends there
abbrev pub is_granule : ℕ → ℕ → Bool
is_granule memory word = is_multiple word 4096 && nat_lt word memory

-- the place of an address among those that have names
abbrev pub number_in : List ℕ → ℕ → Option ℕ
number_in [] address = None
number_in (name ∷ names) address = if name == address then Some 0 else option_map suc (number_in names address)

-- one more address, where it is a new one
abbrev pub added : List ℕ → ℕ → List ℕ
added names address = if is_some (number_in names address) then names else names ++ address ∷ []

-- addresses in the order of their first appearances, behind some that have names already
abbrev pub names_from : List ℕ → List ℕ → List ℕ
names_from names [] = names
names_from names (address ∷ addresses) = names_from (added names address) addresses

-- whether a word is one that gets a name
abbrev pub is_address : ℕ → Role → ℕ → Bool
is_address memory Granule word = is_granule memory word
is_address memory Page word = is_granule memory word
is_address memory Other word = false

abbrev pub addresses_of : ℕ → Role → ℕ → List ℕ
addresses_of memory role word = if is_address memory role word then word ∷ [] else []

-- the addresses among words, from a place on
abbrev pub addresses_among : ℕ → List Role → ℕ → List ℕ → List ℕ
addresses_among memory roles place [] = []
addresses_among memory roles place (word ∷ words) =
    addresses_of memory (role_at roles place) word ++ addresses_among memory roles (place + 1) words

-- what a word is called, on a machine of so many granules: where a granule's place has no granule's address, as one past the last
abbrev pub called : List ℕ → ℕ → Role → ℕ → ℕ
called names granules Granule word = 4096 * unwrap_or (number_in names word) granules
called names granules Page word = unwrap_or (option_map (λ n. 4096 * n) (number_in names word)) word
called names granules Other word = word

-- words from a place on, each as it is called
abbrev pub called_words : List ℕ → ℕ → List Role → ℕ → List ℕ → List ℕ
called_words names granules roles place [] = []
called_words names granules roles place (word ∷ words) =
    called names granules (role_at roles place) word ∷ called_words names granules roles (place + 1) words
