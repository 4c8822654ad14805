-- Programs as lines of calls: a CPU's number and a command, CPU 0's first.
use Rattle.std.specs.Prelude.{ℕ, ◌+◌, List, [], ◌∷◌, ◌++◌}
use Rattle.rmm_spec.specs.declared.command.Command.{Command}
use Rattle.rmm_spec.specs.CommandText.{command_text}
use Rattle.rmm_spec.specs.Text.{decimal}

abbrev pub call_line : ℕ → Command → List ℕ
call_line cpu command = decimal cpu ++ (32 ∷ (command_text command ++ 10 ∷ []))

-- the lines of one CPU
abbrev pub program_lines : ℕ → List Command → List ℕ
program_lines cpu [] = []
program_lines cpu (command ∷ program) = call_line cpu command ++ program_lines cpu program

-- the lines of the CPUs from this one on
abbrev pub calls_from : ℕ → List (List Command) → List ℕ
calls_from cpu [] = []
calls_from cpu (program ∷ programs) = program_lines cpu program ++ calls_from (cpu + 1) programs
