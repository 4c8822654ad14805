-- A CPU whose last call can be committed.
use Rattle.std.specs.Prelude.{◌≡◌, false, IsTrue}
use Rattle.rmm_spec.specs.declared.command.Command.{Command}
use Rattle.event_queue.specs.Stages.{Open}
use Rattle.event_queue.specs.View.{CpuView}

-- the last call is open and isn't committed, and no return was refused
abbrev pub HasCalled : CpuView → Type 0
HasCalled pass = (command : Command) × (pass.stage ≡ Open command) × IsTrue pass.stand.is_open × (pass.is_stopped ≡ false)
