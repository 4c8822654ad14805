use Rattle.std.proofs.Common.{◌≡◌, ◌++◌, drop, map}
use Rattle.rmm_spec.specs.Scenario.{turn_text}
use Rattle.toml.specs.Data.{string}
use Rattle.toml.specs.View.{view}
use Rattle.scenario.proofs.lists.turns_value.Given as goal

abbrev pub invariant-loop-turn : goal.invariant-loop-turn
invariant-loop-turn l = map view l.values.items ++ map string (map turn_text (drop l.turn-index l.turns)) ≡ map string (map turn_text l.turns)
