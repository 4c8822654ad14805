use Rattle.std.proofs.Common.{◌≡◌, ◌++◌, drop, map}
use Rattle.rmm_spec.specs.CommandText.{command_text}
use Rattle.toml.specs.Data.{string}
use Rattle.toml.specs.View.{view}
use Rattle.scenario.proofs.lists.program_value.Given as goal

abbrev pub invariant-loop-command : goal.invariant-loop-command
invariant-loop-command l =
    map view l.values.items ++ map string (map command_text (drop l.command-index l.program)) ≡ map string (map command_text l.program)
