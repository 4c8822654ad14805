-- What is at fault in a scenario.
use Rattle.std.specs.Prelude.{◌≡◌, ℕ, ℤ, true, false, List, slice_get, Some, None, Vec}
use Rattle.std.specs.Borrow.{Bor}
use Rattle.std.specs.List.{AllByRecursion}
use Rattle.std.specs.declared.alloc.Global.{Global}
use Rattle.rmm_spec.specs.Scenario.{IsBetween, IsCommandText, IsTurnText}
use Rattle.rmm_spec.specs.ScenarioKeys.{Document, Kinds}
use Rattle.scenario_report.specs.declared.flaw.Flaw.{Flaw}
use Rattle.scenario_report.specs.declared.flaw.Flaw.TheVariants as flaw
use Rattle.scenario_report.specs.declared.key.Number.{Number}
use Rattle.scenario_report.specs.declared.key.Number.TheVariants as number
use Rattle.scenario_report.specs.declared.numbers.Numbers.{Numbers}
use Rattle.scenario_report.specs.Keys.{fits, is_needed, is_unknown, key_name, most}

-- A key of the document is none of a scenario, or is missing, or holds a value of another kind.
abbrev pub IsKeyFlaw : {Value : Type 0} → Kinds Value → Document Value → Flaw → Type 0
IsKeyFlaw kinds document (flaw.Unknown key) = is_unknown key.now document ≡ true
IsKeyFlaw kinds document (flaw.Missing key) = (is_needed key ≡ true) × (document.value_at (key_name key) ≡ None)
IsKeyFlaw {Value} kinds document (flaw.Kind key) = (value : Value) × (document.value_at (key_name key) ≡ Some value) × (fits kinds key value ≡ false)
IsKeyFlaw kinds document _ = ⊥

-- what is stated of a number
abbrev pub stated_number : Numbers → Number → ℤ
stated_number numbers number.Granules = numbers.granules
stated_number numbers number.Cpus = numbers.cpus
stated_number numbers number.Queue = numbers.queue
stated_number numbers number.Limit = numbers.limit
stated_number numbers number.Version = numbers.version

-- a number is out of its range
abbrev pub IsRangeFlaw : Numbers → Flaw → Type 0
IsRangeFlaw numbers (flaw.Range number stated) = (stated ≡ stated_number numbers number) × ¬ IsBetween 1 (most number) stated
IsRangeFlaw numbers _ = ⊥

-- a text of the CPU's program is no command
abbrev pub IsFlawOfProgram : ℕ → List (Bor (List ℕ)) → Flaw → Type 0
IsFlawOfProgram cpu program (flaw.Command at number text) = (at ≡ cpu) × (slice_get program number ≡ Some text) × ¬ IsCommandText text.now
IsFlawOfProgram cpu program _ = ⊥

-- a text of some CPU's program is
abbrev pub IsCommandFlaw : List (Vec (Bor (List ℕ)) Global) → Flaw → Type 0
IsCommandFlaw programs flaw =
    (cpu : ℕ) × (program : Vec (Bor (List ℕ)) Global) × (slice_get programs cpu ≡ Some program) × IsFlawOfProgram cpu program.items flaw

-- a text among the turns is no turn of so many CPUs
abbrev pub IsTurnFlaw : ℕ → List (Bor (List ℕ)) → Flaw → Type 0
IsTurnFlaw cpus turns (flaw.Turn index text count) = (slice_get turns index ≡ Some text) × (count ≡ cpus) × ¬ IsTurnText cpus text.now
IsTurnFlaw cpus turns _ = ⊥

-- ---- where nothing is at fault

-- a number is in its range
abbrev pub IsInRange : Numbers → Number → Type 0
IsInRange numbers number = IsBetween 1 (most number) (stated_number numbers number)

-- each of them is
abbrev pub AreInRange : Numbers → Type 0
AreInRange numbers = (number : Number) → IsInRange numbers number

-- each text of a program is a command
abbrev pub AreCommands : List (Bor (List ℕ)) → Type 0
AreCommands texts = AllByRecursion (λ (text : Bor (List ℕ)). IsCommandText text.now) texts

-- each program is one of commands
abbrev pub AreOfCommands : List (Vec (Bor (List ℕ)) Global) → Type 0
AreOfCommands programs = AllByRecursion (λ (program : Vec (Bor (List ℕ)) Global). AreCommands program.items) programs

-- each text is a turn of one of so many CPUs
abbrev pub AreTurns : ℕ → List (Bor (List ℕ)) → Type 0
AreTurns cpus turns = AllByRecursion (λ (text : Bor (List ℕ)). IsTurnText cpus text.now) turns
