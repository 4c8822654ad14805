-- Tokens and passes of several CPUs.
use Rattle.std.specs.Prelude.{◌≡◌, ℕ, List, length, slice_get, Some}
use Rattle.commit_tickets.specs.View.{TokenView}
use Rattle.event_queue.specs.View.{CpuView}
use Rattle.monitor.specs.View.{MonitorView}
use Rattle.monitor.specs.Executed.{ArePaired}

-- Tokens and passes of the same CPUs, in the same order.
pub record ArePairs (monitor : MonitorView) (tokens : List TokenView) (passes : List CpuView) : Type 0 where
  pub same_count : length passes ≡ length tokens
  pub each : (place : ℕ) (token : TokenView) (pass : CpuView) → slice_get tokens place ≡ Some token → slice_get passes place ≡ Some pass
      → ArePaired monitor token pass

-- They are of all CPUs, in the order of their numbers.
pub record AreCpus (monitor : MonitorView) (tokens : List TokenView) (passes : List CpuView) : Type 0 where
  pub pairs : ArePairs monitor tokens passes
  pub count : length tokens ≡ monitor.config.cpus
  pub numbered : (cpu : ℕ) (token : TokenView) → slice_get tokens cpu ≡ Some token → token.cpu ≡ cpu
