-- What a CPU stands for.
use Rattle.std.specs.Prelude.{List, map}
use Rattle.merging.specs.Merge.{Walked}
use Rattle.merging.specs.Run.{Phase, Idle, Called, Committed, Stand}
use Rattle.merging.specs.declared.cpu.Phase.TheVariants as held
use Rattle.merging.specs.declared.cpu.Phase as of_cpu
use Rattle.merging.specs.declared.cpu.Cpu.{Cpu}
use Rattle.merging.specs.declared.walk.Walk.{Walk}

abbrev pub phase_seen : of_cpu.Phase → Phase
phase_seen held.Idle = Idle
phase_seen held.Called = Called
phase_seen (held.Committed given) = Committed given

abbrev pub stand_seen : Cpu → Stand
stand_seen cpu = record { line = cpu.line; calls = cpu.calls; returns = cpu.returns; phase = phase_seen cpu.phase }

abbrev pub stands_in : List Cpu → List Stand
stands_in cpus = map stand_seen cpus

-- and what a walk counts
abbrev pub walked_seen : Walk → Walked
walked_seen walk = record { stands = stands_in walk.cpus; events = walk.events; lines = walk.lines }
