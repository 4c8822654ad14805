-- What the program ends with where one of its parts reports a fault of its own, and what each fault says of the words.
use Rattle.std.specs.Prelude.{◌≡◌, ◌≢◌, ◌⊎◌, ⊤, ℕ, List, codes}
use Rattle.std.specs.Borrow.{Bor}
use Rattle.check_command.specs.Faults.{check_status}
use Rattle.check_command.specs.declared.fault.CheckFault.TheVariants as of_check
use Rattle.check_command.specs.declared.fault.Fault.TheVariants as of_device
use Rattle.run_commands.specs.declared.play_fault.PlayFault.{PlayFault}
use Rattle.run_commands.specs.declared.play_fault.PlayFault.TheVariants as of_play
use Rattle.rmmcheck_arguments.specs.declared.words.Request.{Request}
use Rattle.rmmcheck_arguments.specs.declared.words.Request.TheVariants as request
use Rattle.rmmcheck_arguments.specs.declared.words.WordsFault.{WordsFault}
use Rattle.rmmcheck_arguments.specs.declared.words.WordsFault.TheVariants as of_words
use Rattle.rmmcheck_arguments.specs.Words.{AreRefused, Asks}
use Rattle.scenario.specs.declared.fault.ScenarioFault.{ScenarioFault}
use Rattle.scenario.specs.declared.fault.ScenarioFault.TheVariants as of_scenario
use Rattle.run_commands.specs.declared.fault.ProgramFault.{ProgramFault}
use Rattle.run_commands.specs.declared.fault.ProgramFault.TheVariants as fault
use Rattle.run_commands.specs.declared.fault.RunFault.{RunFault}
use Rattle.run_commands.specs.declared.fault.RunFault.TheVariants as of_run

-- ---- how the program ends

-- its exit status where a file states no scenario: what it says is at fault, or memory was refused
abbrev pub scenario_status : ScenarioFault → ℕ
scenario_status of_scenario.NoMemory = 3
scenario_status _ = 2

-- its exit status after a run's fault
abbrev pub run_status : RunFault → ℕ
run_status (of_run.Scenario refused) = scenario_status refused
run_status of_run.NoThread = 3
run_status of_run.Disagrees = 3

-- and after any fault
abbrev pub fault_status : ProgramFault → ℕ
fault_status (fault.Check failed) = check_status failed
fault_status (fault.Run failed) = run_status failed

-- the line of a scenario's fault, without the newline
abbrev pub scenario_line : ScenarioFault → List ℕ
scenario_line of_scenario.NoDocument = codes "rmmcheck: scenario 1"
scenario_line of_scenario.WrongKey = codes "rmmcheck: scenario 2"
scenario_line of_scenario.OutOfRange = codes "rmmcheck: scenario 3"
scenario_line of_scenario.NoCommand = codes "rmmcheck: scenario 4"
scenario_line of_scenario.NoTurn = codes "rmmcheck: scenario 5"
scenario_line of_scenario.NoMemory = codes "rmmcheck: no memory"

-- and that of a run's fault
abbrev pub run_line : RunFault → List ℕ
run_line (of_run.Scenario refused) = scenario_line refused
run_line of_run.NoThread = codes "rmmcheck: cannot start a thread"
run_line of_run.Disagrees = codes "rmmcheck: disagrees"

-- ---- faults of its parts

-- the words ask for nothing, or memory for them was refused
abbrev pub words_fault : WordsFault → ProgramFault
words_fault of_words.Arguments = fault.Check of_check.Arguments
words_fault of_words.NoMemory = fault.Check (of_check.Device of_device.NoMemory)

-- the file at this path isn't played
abbrev pub play_fault : Bor (List ℕ) → PlayFault → ProgramFault
play_fault path of_play.Read = fault.Check (of_check.Device (of_device.CannotRead path))
play_fault path (of_play.Scenario refused) = fault.Run (of_run.Scenario refused)
play_fault path of_play.Write = fault.Check (of_check.Device of_device.CannotWrite)
play_fault path of_play.NoMemory = fault.Check (of_check.Device of_device.NoMemory)
play_fault path of_play.Thread = fault.Run of_run.NoThread
play_fault path of_play.Disagrees = fault.Run of_run.Disagrees

-- the file at this path is played on threads, and that ends so, a file that isn't opened being one that isn't read
abbrev pub EndsThreads : Bor (List ℕ) → ProgramFault → Type 0
EndsThreads path ended = (failed : PlayFault) × (ended ≡ play_fault path failed)

-- the file at this path is played in turns, and that ends so: it starts no thread, and has one list of commits alone
abbrev pub EndsTurns : Bor (List ℕ) → ProgramFault → Type 0
EndsTurns path ended = EndsThreads path ended × (ended ≢ fault.Run of_run.NoThread) × (ended ≢ fault.Run of_run.Disagrees)

-- ---- causes in the words

-- the request names this file
abbrev pub Names : Request → List ℕ → Type 0
Names (request.Check history certificate) path = (path ≡ history.now) ⊎ (path ≡ certificate.now)
Names (request.Run scenario) path = path ≡ scenario.now
Names (request.Threads scenario) path = path ≡ scenario.now

-- the request is for a scenario
abbrev pub Plays : Request → Type 0
Plays (request.Check history certificate) = ⊥
Plays (request.Run scenario) = ⊤
Plays (request.Threads scenario) = ⊤

-- the request is for threads
abbrev pub StartsThreads : Request → Type 0
StartsThreads (request.Check history certificate) = ⊥
StartsThreads (request.Run scenario) = ⊥
StartsThreads (request.Threads scenario) = ⊤

-- The words are the cause of this fault: `Arguments` only where clap finds a fault in them, a path only where they name it, a
-- scenario only where they ask for one to be played, a thread or a disagreement only where that is to be on threads, and
-- standard output only where they ask for something.
abbrev pub HasCause : List (List ℕ) → ProgramFault → Type 0
HasCause words (fault.Check of_check.Arguments) = AreRefused words
HasCause words (fault.Check (of_check.Device (of_device.CannotRead path))) = (asked : Request) × Asks words asked × Names asked path.now
HasCause words (fault.Check (of_check.Device of_device.CannotWrite)) = (asked : Request) × Asks words asked
HasCause words (fault.Check (of_check.Device of_device.NoMemory)) = ⊤
HasCause words (fault.Run (of_run.Scenario refused)) = (asked : Request) × Asks words asked × Plays asked
HasCause words (fault.Run of_run.NoThread) = (asked : Request) × Asks words asked × StartsThreads asked
HasCause words (fault.Run of_run.Disagrees) = (asked : Request) × Asks words asked × StartsThreads asked
