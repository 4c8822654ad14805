use Rattle.std.proofs.lemmas.Result.{IfOk-weaker, IfErr-weaker}
use Rattle.scenario.proofs.Faults.{IsScenarioText-table, IsFirstFault-table, document_in-none}
use Rattle.scenario.proofs.reading.read_scenario.Goals as goal

pub returns-in_default-clause-fault : goal.returns-in_default-clause-fault
returns-in_default-clause-fault c = document_in-none c.args.bytes.now (λ utf8. absurd (c.in_default.ensures.cases.0 utf8))

pub returns-in-Ok-table_from_str-clause-scenario : goal.returns-in-Ok-table_from_str-clause-scenario
returns-in-Ok-table_from_str-clause-scenario c =
    let text = c.in-Ok.ensures.cases in
    let parsed = rw text.0 at c.in-Ok-table_from_str.ensures.ok in
    IfOk-weaker _ _ _ (λ scenario states. IsScenarioText-table c.args.bytes.now _ scenario text.1 parsed states) c.scenario_in.ensures.scenario

pub returns-in-Ok-table_from_str-clause-fault : goal.returns-in-Ok-table_from_str-clause-fault
returns-in-Ok-table_from_str-clause-fault c =
    let text = c.in-Ok.ensures.cases in
    let parsed = rw text.0 at c.in-Ok-table_from_str.ensures.ok in
    IfErr-weaker _ _ _ (λ fault has. IsFirstFault-table fault c.args.bytes.now _ text.1 parsed has) c.scenario_in.ensures.fault
