-- How far an order has come on each CPU.
use Rattle.std.specs.Prelude.{◌≡◌, ℕ, ◌<◌, List, Option, Some, length, slice_get, slice_index}
use Rattle.rmm_spec.specs.HistoryText.{History, IsHistory}
use Rattle.finding.specs.Choice.{IsNextOf, least_of}
use Rattle.finding.specs.declared.choice.Choice.{Choice}
use Rattle.finding.specs.declared.front.Front.{Front}

-- a CPU's next call is known, and when it is tried
pub record IsNextAt (history : History) (counts ranks : List ℕ) (cpu : ℕ) (next : Option Choice) : Type 0 where
  pub known : IsNextOf history counts cpu next
  pub rank : slice_index ranks cpu ≡ least_of next

-- each CPU's is, in a history that keeps to the grammar
pub record IsFront (history : History) (front : Front) : Type 0 where
  pub is_history : IsHistory history
  pub nexts : length front.nexts ≡ 8
  pub ranks : length front.ranks ≡ 8
  pub each : (cpu : ℕ) (next : Option Choice) → cpu < history.config.cpus → slice_get front.nexts cpu ≡ Some next
      → IsNextAt history front.counts front.ranks cpu next
