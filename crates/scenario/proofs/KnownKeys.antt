-- The keys of a table.
use Rattle.std.proofs.Common.{◌≡◌, ◌&&◌, List, [], ◌∷◌, String, Global, string_bytes, refl, ap}
use Rattle.std.specs.List.{list_all}
use Rattle.std.specs.Map.{keys_of}
use Rattle.toml.specs.View.{members_view}
use Rattle.toml.specs.declared.value.Value.{Value}
use Rattle.rmm_spec.specs.ScenarioKeys.{is_key}
use Rattle.scenario.specs.TomlDocument.{keys_in}

-- All are known where each is.
pub known_keys-view : (entries : List (String Global × Value))
    → list_all is_key (keys_in (members_view entries)) ≡ list_all (λ key. is_key (string_bytes key)) (keys_of entries)
known_keys-view [] = refl
known_keys-view (entry ∷ entries) = ap (λ rest. is_key (string_bytes entry.0) && rest) (known_keys-view entries)
