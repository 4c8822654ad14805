use Rattle.std.proofs.Common.{map}
use Rattle.std.specs.List.{AllByRecursion}
use Rattle.rmm_spec.specs.CommandText.{IsCommand, command_text}
use Rattle.rmm_spec.specs.Scenario.{IsCommandText}
use Rattle.scenario.specs.SeenPrograms.{seen_programs}
use Rattle.scenario.specs.SeenTexts.{seen_texts}
use Rattle.scenario.proofs.ReadTo.{IsReadTo}
use Rattle.scenario.proofs.program.programs_from.Given as goal

abbrev pub invariant-loop-texts : goal.invariant-loop-texts
invariant-loop-texts l = IsReadTo (AllByRecursion IsCommand) (map command_text) (AllByRecursion IsCommandText)
    (λ list. seen_texts list.items) l.lists l.texts-index (seen_programs l.programs.items)
