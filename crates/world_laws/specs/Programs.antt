-- What is asked of programs so that their runs can be written down. This project's own.
use Rattle.std.specs.Prelude.{ℕ, zero, suc, ◌+◌, ◌<◌, List, length}
use Rattle.std.specs.List.{AllByRecursion}
use Rattle.rmm_spec.specs.declared.command.Command.{Command}
use Rattle.rmm_spec.specs.HistoryText.{Config}
use Rattle.rmm_spec.specs.CommandText.{IsCommand}

-- each command of the machine's CPUs has as many words as its function takes, of 64 bits each
abbrev pub HaveTexts : Config → (ℕ → List Command) → Type 0
HaveTexts config programs = (cpu : ℕ) → cpu < config.cpus → AllByRecursion IsCommand (programs cpu)

-- how many commands the first CPUs have, so many of them
abbrev pub commands_below : ℕ → (ℕ → List Command) → ℕ
commands_below zero programs = 0
commands_below (suc cpus) programs = length (programs cpus) + commands_below cpus programs
