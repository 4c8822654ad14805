-- Scenarios: how large a machine is, what each CPU calls, who is to take which turn; and what has to be stated to give one.
-- This project's own.
use Rattle.std.specs.Prelude.{◌≡◌, ℕ, ◌<◌, ◌≤◌, ℤ, pos, negsuc, Bool, true, false, IsTrue, List, ◌++◌, [], map, length, sum, codes}
use Rattle.std.specs.List.{AllByRecursion}
use Rattle.rmm_spec.specs.declared.command.Command.{Command}
use Rattle.rmm_spec.specs.declared.turn.Due.{Due}
use Rattle.rmm_spec.specs.declared.turn.Will.{Will}
use Rattle.rmm_spec.specs.declared.turn.Will.TheVariants.{Go, GiveUp, Stop}
use Rattle.rmm_spec.specs.declared.version.Version.{Version}
use Rattle.rmm_spec.specs.declared.version.Version.TheVariants.{One, Two, Large}
use Rattle.rmm_spec.specs.CommandText.{IsCommand, command_text}
use Rattle.rmm_spec.specs.HistoryText.{Config, IsConfig, granule_limit}
use Rattle.rmm_spec.specs.Text.{decimal}

-- what each CPU calls, who is to take which turn, how many events wait to be drained, and how many turns there are at most
pub record Scenario : Type 0 where
  pub config : Config
  pub programs : List (List Command)
  pub queue : ℕ
  pub turns : List Due
  pub limit : ℕ

-- a scenario is of a version that has a number
abbrev pub is_numbered : Version → Bool
is_numbered One = true
is_numbered Two = true
is_numbered Large = false

-- a program for each CPU, of commands that have texts, and no more in all than a history has room for
pub record IsScenario (scenario : Scenario) : Type 0 where
  pub config : IsConfig scenario.config
  pub version : IsTrue (is_numbered scenario.config.version)
  pub programs : length scenario.programs ≡ scenario.config.cpus
  pub commands : AllByRecursion (AllByRecursion IsCommand) scenario.programs
  pub few : sum (map length scenario.programs) ≤ 499999
  pub queue : (1 ≤ scenario.queue) × (scenario.queue ≤ 65536)
  pub turns : AllByRecursion (λ turn. turn.cpu < scenario.config.cpus) scenario.turns
  pub limit : (1 ≤ scenario.limit) × (scenario.limit ≤ 10000000)

-- ---- texts

abbrev pub will_text : Will → List ℕ
will_text Go = []
will_text GiveUp = codes " giveup"
will_text Stop = codes " stop"

abbrev pub turn_text : Due → List ℕ
turn_text turn = decimal turn.cpu ++ will_text turn.will

abbrev pub IsCommandText : List ℕ → Type 0
IsCommandText text = (command : Command) × IsCommand command × (text ≡ command_text command)

-- a turn of one of so many CPUs
abbrev pub IsTurnText : ℕ → List ℕ → Type 0
IsTurnText cpus text = (turn : Due) × (turn.cpu < cpus) × (text ≡ turn_text turn)

-- ---- what is stated

-- the numbers of the versions that have one, and 0
abbrev pub version_number : Version → ℕ
version_number One = 1
version_number Two = 2
version_number Large = 0

-- what a document says, before anybody asks whether the numbers and texts make sense
pub record Stated : Type 0 where
  pub granules : ℤ
  pub cpus : ℤ
  pub programs : List (List (List ℕ))
  pub queue : ℤ
  pub turns : List (List ℕ)
  pub limit : ℤ
  pub version : ℤ

-- just this is stated
pub record IsStatedBy (stated : Stated) (scenario : Scenario) : Type 0 where
  pub is_scenario : IsScenario scenario
  pub granules : stated.granules ≡ pos scenario.config.granules
  pub cpus : stated.cpus ≡ pos scenario.config.cpus
  pub programs : stated.programs ≡ map (map command_text) scenario.programs
  pub queue : stated.queue ≡ pos scenario.queue
  pub turns : stated.turns ≡ map turn_text scenario.turns
  pub limit : stated.limit ≡ pos scenario.limit
  pub version : stated.version ≡ pos (version_number scenario.config.version)

-- a number from one to another
abbrev pub IsBetween : ℕ → ℕ → ℤ → Type 0
IsBetween low high (pos n) = (low ≤ n) × (n ≤ high)
IsBetween low high (negsuc n) = ⊥

-- Each number is within its range, and there is a program for each CPU.
pub record AreInRange (stated : Stated) : Type 0 where
  pub granules : IsBetween 1 (granule_limit One) stated.granules
  pub cpus : IsBetween 1 8 stated.cpus
  pub programs : stated.cpus ≡ pos (length stated.programs)
  pub few : sum (map length stated.programs) ≤ 499999
  pub queue : IsBetween 1 65536 stated.queue
  pub limit : IsBetween 1 10000000 stated.limit
  pub version : IsBetween 1 2 stated.version

-- Each command can be read.
abbrev pub HasCommands : Stated → Type 0
HasCommands stated = AllByRecursion (AllByRecursion IsCommandText) stated.programs

-- Each turn can be read, and is one of a CPU that has a program.
abbrev pub HasTurns : Stated → Type 0
HasTurns stated = AllByRecursion (IsTurnText (length stated.programs)) stated.turns
