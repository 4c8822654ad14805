-- A `toml` table as a scenario's document: the keys that it has, and what kind of value each holds.
use Rattle.std.specs.Prelude.{ℕ, List, [], ◌∷◌, option_map}
use Rattle.toml.specs.Data.{Data, Items, no_items, item, Members, no_members, member, get_member, as_integer, as_str, as_array}
use Rattle.rmm_spec.specs.ScenarioKeys.{Kinds, Document}

abbrev pub items_in : Items → List Data
items_in no_items = []
items_in (item value rest) = value ∷ items_in rest

abbrev pub toml_kinds : Kinds Data
toml_kinds = record { whole = as_integer; text = as_str; items = λ value. option_map items_in (as_array value) }

abbrev pub keys_in : Members → List (List ℕ)
keys_in no_members = []
keys_in (member key value rest) = key ∷ keys_in rest

abbrev pub document_of : Members → Document Data
document_of members = record { keys = keys_in members; value_at = λ key. get_member key members }
