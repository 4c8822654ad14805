-- Items of one kind, read one after another.
use Rattle.std.proofs.Common.{List, ◌++◌, Option, option_map}
use Rattle.toml.specs.Data.{Data}
use Rattle.toml.specs.View.{items_view}
use Rattle.toml.specs.declared.value.Value.{Value}
use Rattle.rmm_spec.specs.ScenarioKeys.{each_value}
use Rattle.scenario.specs.TomlDocument.{items_in}

-- what was read, and behind it what the rest is
abbrev pub with_rest : {A : Type 0} → (Data → Option A) → List A → List Value → Option (List A)
with_rest kind read rest = option_map (λ more. read ++ more) (each_value kind (items_in (items_view rest)))
