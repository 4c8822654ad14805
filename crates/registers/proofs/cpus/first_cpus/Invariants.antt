-- The CPUs before this one stand where they stand at first.
use Rattle.std.proofs.Common.{◌≡◌, ◌<◌, ℕ, Some, length}
use Rattle.std.specs.List.{slice_get}
use Rattle.registers.specs.declared.cpus.Cpu.{Cpu}
use Rattle.registers.specs.Cpus.{IsCpu}
use Rattle.registers.proofs.cpus.first_cpus.Given as goal

abbrev pub invariant-loop-cpu : goal.invariant-loop-cpu
invariant-loop-cpu l = record {
  size : length l.cpus ≡ 8;
  each : (cpu : ℕ) (one : Cpu) → slice_get l.cpus cpu ≡ Some one → cpu < l.cpu → IsCpu l.history.recorded.events 0 cpu one;
}
