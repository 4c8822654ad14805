-- What contracts see of a monitor.
use Rattle.std.specs.Prelude.{ℕ}
use Rattle.atomic_table.specs.Seated.{TableId}
use Rattle.rmm_spec.specs.HistoryText.{Config}

-- a machine's size, and the queue that its CPUs record into, with how many events that holds at most
pub record MonitorView : Type 0 where
  pub config : Config
  pub queue : TableId
  pub capacity : ℕ

-- a queue, how many events it holds at most, and how many CPUs record into it
pub record QueueView : Type 0 where
  pub queue : TableId
  pub capacity : ℕ
  pub cpus : ℕ
