use Rattle.std.proofs.Common.{◌≡◌, drop}
use Rattle.toml.specs.Data.{as_str}
use Rattle.toml.specs.View.{array_view}
use Rattle.rmm_spec.specs.ScenarioKeys.{each_value}
use Rattle.scenario.specs.TomlDocument.{items_in}
use Rattle.scenario.specs.SeenTexts.{seen_texts}
use Rattle.scenario.proofs.Items.{with_rest}
use Rattle.scenario.proofs.keys.each_text.Given as goal

abbrev pub invariant-loop-value : goal.invariant-loop-value
invariant-loop-value l =
    each_value as_str (items_in (array_view l.items)) ≡ with_rest as_str (seen_texts l.list.items) (drop l.value-index l.items.items)
