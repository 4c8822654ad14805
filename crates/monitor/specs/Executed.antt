-- What an execution leaves of its CPU's token and pass.
use Rattle.std.specs.Prelude.{◌≡◌, ℕ, ◌+◌, ◌-◌, ◌≤◌, true, false, List, [], ◌∷◌, ◌++◌, length, slice_get, Some, None, Result, Ok, Err}
use Rattle.rmm_spec.specs.declared.command.Command.{Command}
use Rattle.rmm_spec.specs.declared.event.Event.{Event}
use Rattle.rmm_spec.specs.declared.event.Event.TheVariants.{Called, Returned}
use Rattle.rmm_spec.specs.declared.reply.Reply.{Reply}
use Rattle.rmm_spec.specs.HistoryText.{Config}
use Rattle.rmm_spec.specs.Linearization.{IsCalled, IsReturned}
use Rattle.commit_tickets.specs.declared.committing.Done.{Done}
use Rattle.commit_tickets.specs.declared.fault.CommitFault.{CommitFault}
use Rattle.commit_tickets.specs.declared.fault.CommitFault.TheVariants as commit
use Rattle.commit_tickets.specs.Entries.{Committed}
pub use Rattle.commit_tickets.specs.Left.{HasCommitted, HasFailed}
use Rattle.commit_tickets.specs.View.{TokenView}
use Rattle.event_queue.specs.Records.{WasFull}
use Rattle.event_queue.specs.Stages as stages
use Rattle.event_queue.specs.View.{CpuView}
use Rattle.monitor.specs.View.{MonitorView}
use Rattle.monitor.specs.declared.refused.Refused.{Refused}
use Rattle.monitor.specs.declared.refused.Refused.TheVariants.{Full, NoMemory, Unrecorded, Stopped, Disagrees}

-- Token and pass are of one CPU of this monitor. While the token isn't stopped, the CPU has returned from all its calls and has
-- committed each, and none was refused. It has no more commits than events.
pub record ArePaired (monitor : MonitorView) (token : TokenView) (pass : CpuView) : Type 0 where
  pub same_queue : pass.queue ≡ monitor.queue
  pub same_cpus : pass.cpus ≡ monitor.config.cpus
  pub same_cpu : pass.cpu ≡ token.cpu
  pub closed : token.is_stopped ≡ false → pass.stand.is_open ≡ false
  pub running : token.is_stopped ≡ false → pass.is_stopped ≡ false
  pub counted : token.is_stopped ≡ false → pass.stand.next ≡ length token.mine
  pub faultless : token.is_stopped ≡ false → token.fault ≡ None
  pub few : length token.mine ≤ length pass.events

-- ---- the pass

-- the pass with its next call
abbrev pub called : CpuView → Command → CpuView
called pass command = record pass {
  events = pass.events ++ Called pass.cpu pass.stand.next command ∷ [];
  stand = record { next = pass.stand.next + 1; is_open = true };
  stage = stages.Open command;
}

-- The pass of the token's CPU, whose last event is the call of this command.
pub record HasCalled (token : TokenView) (command : Command) (pass : CpuView) : Type 0 where
  pub same_cpu : pass.cpu ≡ token.cpu
  pub before : CpuView
  pub is_called : pass ≡ called before command

-- the pass after the return from its open call
abbrev pub returned : CpuView → Reply → CpuView
returned pass given = record pass {
  events = pass.events ++ Returned pass.cpu (pass.stand.next - 1) given ∷ [];
  stand = record { next = pass.stand.next; is_open = false };
  stage = stages.Idle;
}

-- the pass after the commit of its open call
abbrev pub committed : CpuView → Reply → CpuView
committed pass given = record pass { stage = stages.Committed given }

-- the pass after a return that was refused
abbrev pub unreturned : CpuView → CpuView
unreturned pass = record pass { is_stopped = true }

-- ---- answers

-- what a fault of the commit is answered
abbrev pub refused_for : CommitFault → Refused
refused_for commit.NoMemory = NoMemory
refused_for commit.Disagrees = Disagrees

-- what each answer leaves: the token, and the pass
abbrev pub Leaves : Command → TokenView → CpuView → Result Done Refused → TokenView → CpuView → Type 0
Leaves command token pass (Ok done) new_token new_pass =
    HasCommitted token command done new_token × (new_pass ≡ returned (called pass command) done.reply)
Leaves command token pass (Err (Unrecorded done)) new_token new_pass =
    HasCommitted (record token { is_stopped = true }) command done new_token × (new_pass ≡ unreturned (committed (called pass command) done.reply))
Leaves command token pass (Err NoMemory) new_token new_pass =
    HasFailed (record token { is_stopped = true }) commit.NoMemory new_token × (new_pass ≡ called pass command)
Leaves command token pass (Err Disagrees) new_token new_pass =
    HasFailed (record token { is_stopped = true }) commit.Disagrees new_token × (new_pass ≡ called pass command)
Leaves command token pass (Err Full) new_token new_pass = (new_token ≡ token) × (new_pass ≡ pass)
Leaves command token pass (Err Stopped) new_token new_pass = (new_token ≡ token) × (new_pass ≡ pass)

-- what was committed has a ticket at or past what its token had been told of
abbrev pub IsPastSeen : TokenView → Result Done Refused → Type 0
IsPastSeen token (Ok done) = token.seen ≤ done.ticket
IsPastSeen token (Err (Unrecorded done)) = token.seen ≤ done.ticket
IsPastSeen token _ = Unit {0}

-- a full queue is answered only where it was full at some moment, while the pass had the events that it has now
abbrev pub FullAtSomeMoment : ℕ → CpuView → Result Done Refused → Type 0
FullAtSomeMoment capacity pass (Err Full) = WasFull capacity pass.cpus pass.cpu pass.events pass.heard
FullAtSomeMoment capacity pass (Err (Unrecorded done)) = WasFull capacity pass.cpus pass.cpu pass.events pass.heard
FullAtSomeMoment capacity pass _ = Unit {0}
