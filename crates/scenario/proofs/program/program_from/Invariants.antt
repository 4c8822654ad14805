use Rattle.rmm_spec.specs.CommandText.{IsCommand, command_text}
use Rattle.rmm_spec.specs.Scenario.{IsCommandText}
use Rattle.scenario.proofs.ReadTo.{IsReadTo}
use Rattle.scenario.proofs.program.program_from.Given as goal

abbrev pub invariant-loop-text : goal.invariant-loop-text
invariant-loop-text l = IsReadTo IsCommand command_text IsCommandText (λ text. text.now) l.texts l.text-index l.program.items
