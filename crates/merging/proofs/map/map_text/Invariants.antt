use Rattle.std.proofs.Common.{◌≡◌, ◌++◌, drop}
use Rattle.merging.specs.Map.{map_from}
use Rattle.merging.proofs.map.map_text.Given as goal

abbrev pub invariant-loop-number : goal.invariant-loop-number
invariant-loop-number l = l.text.items ++ map_from l.number (drop l.number l.names) ≡ map_from 0 l.names
