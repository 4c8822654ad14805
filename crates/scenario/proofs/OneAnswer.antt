-- Bytes that state a scenario state no other, and have no fault.
use Rattle.std.proofs.Common.{◌≡◌, ◌<◌, ℕ, pos, List, [], ◌∷◌, length, map, sum, Some, None, refl, sym, ap, ◌∙◌}
use Rattle.std.specs.List.{AllByRecursion}
use Rattle.std.proofs.lemmas.Option.{same_Some}
use Rattle.std.proofs.lemmas.List.{length-map}
use Rattle.toml.specs.Data.{Members}
use Rattle.scenario.specs.declared.fault.ScenarioFault.{ScenarioFault}
use Rattle.scenario.specs.declared.fault.ScenarioFault.TheVariants.{NoDocument, WrongKey, OutOfRange, NoCommand, NoTurn, NoMemory}
use Rattle.rmm_spec.specs.declared.turn.Due.{Due}
use Rattle.rmm_spec.specs.Scenario.{Stated, Scenario, IsStatedBy, AreInRange, HasCommands, HasTurns, IsTurnText, turn_text}
use Rattle.rmm_spec.specs.ScenarioKeys.{States}
use Rattle.scenario.specs.TomlDocument.{toml_kinds, document_of}
use Rattle.scenario.specs.ScenarioText.{document_in, IsScenarioText, StatesScenario, IsValueFault, IsTableFault, IsFirstFault, HasValueFault, HasTableFault}
use Rattle.scenario.proofs.Values.{IsCommandText-all, granules-between, lengths-texts, version_number-between}

-- A document has one table.
pub same_members : (bytes : List ℕ) (a b : Members) → document_in bytes ≡ Some a → document_in bytes ≡ Some b → a ≡ b
same_members bytes a b is-a is-b = same_Some _ _ (sym is-a ∙ is-b)

-- A table says one thing.
pub same_stated : (written : Members) (a b : Stated) → States toml_kinds (document_of written) a → States toml_kinds (document_of written) b → a ≡ b
same_stated written a b is-a is-b = λ i. record {
  granules = same_Some _ _ (sym is-a.granules ∙ is-b.granules) i;
  cpus = same_Some _ _ (sym is-a.cpus ∙ is-b.cpus) i;
  programs = same_Some _ _ (sym is-a.programs ∙ is-b.programs) i;
  queue = same_Some _ _ (sym is-a.queue ∙ is-b.queue) i;
  turns = same_Some _ _ (sym is-a.turns ∙ is-b.turns) i;
  limit = same_Some _ _ (sym is-a.limit ∙ is-b.limit) i;
  version = same_Some _ _ (sym is-a.version ∙ is-b.version) i;
}

-- What states a scenario is in range.
pub AreInRange-stated : (stated : Stated) (scenario : Scenario) → IsStatedBy stated scenario → AreInRange stated
AreInRange-stated stated scenario by_it =
    let good = by_it.is_scenario in
    let count : length stated.programs ≡ scenario.config.cpus = ap length by_it.programs ∙ length-map scenario.programs _ ∙ good.programs in
    record {
      granules = rw by_it.granules (granules-between scenario.config good.config good.version);
      cpus = rw by_it.cpus (good.config.some_cpus, good.config.most_cpus);
      programs = by_it.cpus ∙ ap pos (sym count);
      few = rw (ap (λ programs. sum (map length programs)) by_it.programs ∙ ap sum (lengths-texts scenario.programs)) good.few;
      queue = rw by_it.queue good.queue;
      limit = rw by_it.limit good.limit;
      version = rw by_it.version (version_number-between scenario.config.version good.version);
    }

pub HasCommands-stated : (stated : Stated) (scenario : Scenario) → IsStatedBy stated scenario → HasCommands stated
HasCommands-stated stated scenario by_it = rw by_it.programs (IsCommandText-all scenario.programs by_it.is_scenario.commands)

IsTurnText-each : (cpus : ℕ) (turns : List Due)
    → AllByRecursion (λ turn. turn.cpu < cpus) turns → AllByRecursion (IsTurnText cpus) (map turn_text turns)
IsTurnText-each cpus [] all = tt
IsTurnText-each cpus (turn ∷ turns) all = ((turn, all.0, refl), IsTurnText-each cpus turns all.1)

pub HasTurns-stated : (stated : Stated) (scenario : Scenario) → IsStatedBy stated scenario → HasTurns stated
HasTurns-stated stated scenario by_it =
    let count : length stated.programs ≡ scenario.config.cpus =
    ap length by_it.programs ∙ length-map scenario.programs _ ∙ by_it.is_scenario.programs in
    rw (count, by_it.turns) (IsTurnText-each scenario.config.cpus scenario.turns by_it.is_scenario.turns)

-- What states a scenario has no fault of its values.
no_value_fault : (fault : ScenarioFault) (stated : Stated) (scenario : Scenario)
    → IsStatedBy stated scenario → IsValueFault fault stated → fault ≡ NoMemory
no_value_fault NoDocument stated scenario by_it has = absurd has
no_value_fault WrongKey stated scenario by_it has = absurd has
no_value_fault OutOfRange stated scenario by_it has = absurd (has (AreInRange-stated stated scenario by_it))
no_value_fault NoCommand stated scenario by_it has = absurd (has.1 (HasCommands-stated stated scenario by_it))
no_value_fault NoTurn stated scenario by_it has = absurd (has.2 (HasTurns-stated stated scenario by_it))
no_value_fault NoMemory stated scenario by_it has = refl

no_fault_of_values : (fault : ScenarioFault) (written : Members) (scenario : Scenario)
    → StatesScenario written scenario → HasValueFault fault written → fault ≡ NoMemory
no_fault_of_values fault written scenario states has =
    let at_one : IsValueFault fault states.stated = rw (same_stated written states.stated has.stated states.keys has.keys) has.has in
    no_value_fault fault states.stated scenario states.values at_one

no_table_fault : (fault : ScenarioFault) (written : Members) (scenario : Scenario)
    → StatesScenario written scenario → IsTableFault fault written → fault ≡ NoMemory
no_table_fault NoDocument written scenario states has = absurd has
no_table_fault WrongKey written scenario states has = absurd (has states.stated states.keys)
no_table_fault OutOfRange written scenario states has = no_fault_of_values OutOfRange written scenario states has
no_table_fault NoCommand written scenario states has = no_fault_of_values NoCommand written scenario states has
no_table_fault NoTurn written scenario states has = no_fault_of_values NoTurn written scenario states has
no_table_fault NoMemory written scenario states has = refl

no_fault_of_table : (fault : ScenarioFault) (bytes : List ℕ) (scenario : Scenario)
    → IsScenarioText bytes scenario → HasTableFault fault bytes → fault ≡ NoMemory
no_fault_of_table fault bytes scenario text has =
    let at_one : IsTableFault fault text.members = rw (same_members bytes text.members has.members text.document has.document) has.has in
    no_table_fault fault text.members scenario text.states at_one

-- Bytes that state a scenario have no fault.
pub no_fault : (fault : ScenarioFault) (bytes : List ℕ) (scenario : Scenario)
    → IsScenarioText bytes scenario → IsFirstFault fault bytes → fault ≡ NoMemory
no_fault NoDocument bytes scenario text has = absurd (let bad : None ≡ Some text.members = sym has ∙ text.document in cc)
no_fault WrongKey bytes scenario text has = no_fault_of_table WrongKey bytes scenario text has
no_fault OutOfRange bytes scenario text has = no_fault_of_table OutOfRange bytes scenario text has
no_fault NoCommand bytes scenario text has = no_fault_of_table NoCommand bytes scenario text has
no_fault NoTurn bytes scenario text has = no_fault_of_table NoTurn bytes scenario text has
no_fault NoMemory bytes scenario text has = refl
