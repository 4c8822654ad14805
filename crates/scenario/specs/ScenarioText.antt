-- The bytes that state a scenario, and the first fault of those that state none.
use Rattle.std.specs.Prelude.{◌≡◌, ◌≢◌, ⊤, ℕ, IsUtf8, List, if◌then◌else◌, Option, Some, None}
use Rattle.std.specs.Str.{is_utf8}
use Rattle.toml.specs.Data.{Members, no_members}
use Rattle.toml.specs.Errors.{IsBlank}
use Rattle.toml.specs.Parse.{parse_document}
use Rattle.rmm_spec.specs.Scenario.{Scenario, Stated, IsStatedBy, AreInRange, HasCommands, HasTurns}
use Rattle.rmm_spec.specs.ScenarioKeys.{States}
use Rattle.scenario.specs.declared.fault.ScenarioFault.{ScenarioFault}
use Rattle.scenario.specs.declared.fault.ScenarioFault.TheVariants.{NoDocument, WrongKey, OutOfRange, NoCommand, NoTurn, NoMemory}
use Rattle.scenario.specs.TomlDocument.{toml_kinds, document_of}

-- the table that bytes are, where they are UTF-8 and a document by the grammar of `toml`
abbrev pub document_in : List ℕ → Option Members
document_in bytes = if is_utf8 bytes then parse_document bytes else None

-- the table states the scenario
pub record StatesScenario (members : Members) (scenario : Scenario) : Type 0 where
  pub stated : Stated
  pub keys : States toml_kinds (document_of members) stated
  pub values : IsStatedBy stated scenario

-- the bytes state the scenario
pub record IsScenarioText (bytes : List ℕ) (scenario : Scenario) : Type 0 where
  pub members : Members
  pub document : document_in bytes ≡ Some members
  pub states : StatesScenario members scenario

-- The fault is the first of what the document says. Memory may be refused whatever it says.
abbrev pub IsValueFault : ScenarioFault → Stated → Type 0
IsValueFault OutOfRange stated = ¬ AreInRange stated
IsValueFault NoCommand stated = AreInRange stated × (¬ HasCommands stated)
IsValueFault NoTurn stated = AreInRange stated × HasCommands stated × (¬ HasTurns stated)
IsValueFault NoMemory stated = ⊤
IsValueFault NoDocument stated = ⊥
IsValueFault WrongKey stated = ⊥

-- the document says these values, and they have this fault
pub record HasValueFault (fault : ScenarioFault) (members : Members) : Type 0 where
  pub stated : Stated
  pub keys : States toml_kinds (document_of members) stated
  pub has : IsValueFault fault stated

-- The table has other keys than a scenario, or another kind of value under one. One without keys is refused without memory.
abbrev pub IsKeyFault : ScenarioFault → Members → Type 0
IsKeyFault WrongKey written = (stated : Stated) → ¬ States toml_kinds (document_of written) stated
IsKeyFault NoMemory written = written ≢ no_members
IsKeyFault NoDocument written = ⊥
IsKeyFault OutOfRange written = ⊥
IsKeyFault NoCommand written = ⊥
IsKeyFault NoTurn written = ⊥

-- the fault is the first of the table
abbrev pub IsTableFault : ScenarioFault → Members → Type 0
IsTableFault WrongKey written = (stated : Stated) → ¬ States toml_kinds (document_of written) stated
IsTableFault OutOfRange written = HasValueFault OutOfRange written
IsTableFault NoCommand written = HasValueFault NoCommand written
IsTableFault NoTurn written = HasValueFault NoTurn written
IsTableFault NoMemory written = written ≢ no_members
IsTableFault NoDocument written = ⊥

-- the bytes are a document, and its table has this fault
pub record HasTableFault (fault : ScenarioFault) (bytes : List ℕ) : Type 0 where
  pub members : Members
  pub document : document_in bytes ≡ Some members
  pub has : IsTableFault fault members

-- The fault is the first that the bytes have. Memory may be refused where they are text with more than white space and comments.
abbrev pub IsFirstFault : ScenarioFault → List ℕ → Type 0
IsFirstFault NoDocument bytes = document_in bytes ≡ None
IsFirstFault WrongKey bytes = HasTableFault WrongKey bytes
IsFirstFault OutOfRange bytes = HasTableFault OutOfRange bytes
IsFirstFault NoCommand bytes = HasTableFault NoCommand bytes
IsFirstFault NoTurn bytes = HasTableFault NoTurn bytes
IsFirstFault NoMemory bytes = IsUtf8 bytes × (¬ IsBlank bytes)
