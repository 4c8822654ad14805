use Rattle.std.proofs.Common.{◌<◌}
use Rattle.rmm_spec.specs.Scenario.{IsTurnText, turn_text}
use Rattle.scenario.proofs.ReadTo.{IsReadTo}
use Rattle.scenario.proofs.turn.turns_from.Given as goal

abbrev pub invariant-loop-text : goal.invariant-loop-text
invariant-loop-text l = IsReadTo (λ turn. turn.cpu < l.cpus) turn_text (IsTurnText l.cpus) (λ text. text.now) l.texts l.text-index l.turns.items
