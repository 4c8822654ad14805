-- Laws of roles, and of words that a loop looks at one after the other.
use Rattle.std.proofs.Common.{◌≡◌, ℕ, ◌+◌, ◌*◌, ◌<◌, List, ◌∷◌, ◌++◌, length, drop, get_or, Some, refl, sym, ap, ◌∙◌}
use Rattle.std.specs.Prelude.{slice_get}
use Rattle.std.proofs.lemmas.Option.{slice_get_within, get_or_from_slice_get}
use Rattle.std.proofs.lemmas.List.{drop_more}
use Rattle.rmm_spec.specs.declared.function_id.FunctionId.{FunctionId}
use Rattle.rmm_spec.specs.declared.function_id.FunctionId.TheVariants as function
use Rattle.rmm_spec.specs.Call.{call_from}
use Rattle.rmm_spec.specs.Step.Terms.{named}
use Rattle.merging.specs.Laws.{NamesAtPlaces}
use Rattle.merging.specs.Map.{map_line, map_from}
use Rattle.merging.specs.Names.{addresses_of, addresses_among, names_from}
use Rattle.merging.specs.Roles.{command_roles, role_at}
use Rattle.merging.specs.declared.roles.Role.{Role}
use Rattle.merging.proofs.NameLaws.{names_from-append}

pub NamesAtPlaces-each : (f : FunctionId) (words : List ℕ) → NamesAtPlaces f words
unfolding call_from named command_roles
NamesAtPlaces-each function.GranuleDelegate words = refl
NamesAtPlaces-each _ words = refl

-- one word further
pub names_from-next : (names : List ℕ) (memory : ℕ) (roles : List Role) (words : List ℕ) (place : ℕ) → place < length words
    → names_from (names_from names (addresses_of memory (role_at roles place) (get_or words place 0)))
    (addresses_among memory roles (place + 1) (drop (place + 1) words))
    ≡ names_from names (addresses_among memory roles place (drop place words))
names_from-next names memory roles words place within =
    sym (names_from-append names (addresses_of memory (role_at roles place) (get_or words place 0))
    (addresses_among memory roles (place + 1) (drop (place + 1) words)))
    ∙ ap (λ ws. names_from names (addresses_among memory roles place ws)) (sym (drop_more words place 0 within))

-- one address further
pub map_from-next : (names : List ℕ) (number address : ℕ) → slice_get names number ≡ Some address
    → map_line address (4096 * number) ++ map_from (number + 1) (drop (number + 1) names) ≡ map_from number (drop number names)
map_from-next names number address is =
    ap (map_from number)
    (sym (drop_more names number address (slice_get_within names number address is)
    ∙ ap (λ a. a ∷ drop (number + 1) names) (get_or_from_slice_get names number address address is)))
