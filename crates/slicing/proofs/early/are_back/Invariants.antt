-- The calls of the CPUs before this one returned.
use Rattle.std.proofs.Common.{ℕ, ◌<◌}
use Rattle.rmm_spec.specs.declared.command.Command.{Command}
use Rattle.rmm_spec.specs.Linearization.{IsCalled}
use Rattle.verdict_laws.specs.Slices.{IsBack}
use Rattle.slicing.specs.Calls.{events_to}
use Rattle.slicing.proofs.early.are_back.Given as goal

abbrev pub invariant-loop-cpu : goal.invariant-loop-cpu
invariant-loop-cpu l = (cpu place number : ℕ) (command : Command) → cpu < l.cpu
    → IsCalled (events_to l.count l.history.recorded.events) place cpu number command → place < l.from
    → IsBack (events_to l.count l.history.recorded.events) cpu number l.first
