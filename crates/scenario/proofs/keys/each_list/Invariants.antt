use Rattle.std.proofs.Common.{◌≡◌, drop}
use Rattle.toml.specs.View.{array_view}
use Rattle.rmm_spec.specs.ScenarioKeys.{each_value, texts}
use Rattle.scenario.specs.TomlDocument.{items_in, toml_kinds}
use Rattle.scenario.specs.SeenTexts.{seen_lists}
use Rattle.scenario.proofs.Items.{with_rest}
use Rattle.scenario.proofs.keys.each_list.Given as goal

abbrev pub invariant-loop-value : goal.invariant-loop-value
invariant-loop-value l = each_value (texts toml_kinds) (items_in (array_view l.items))
    ≡ with_rest (texts toml_kinds) (seen_lists l.lists.items) (drop l.value-index l.items.items)
