-- What CPUs with a program have called and committed.
use Rattle.std.specs.Prelude.{◌≡◌, ℕ, zero, suc, ◌+◌, ◌-◌, ◌<◌, ◌≤◌, ◌⊎◌, List, [], ◌∷◌, ◌++◌, length, map, take, slice_get, get_or, Some, MatchOption, Vec}
use Rattle.std.specs.List.{AllByRecursion}
use Rattle.std.specs.declared.alloc.Global.{Global}
use Rattle.rmm_spec.specs.declared.command.Command.{Command}
use Rattle.rmm_spec.specs.declared.event.Event.{Event}
use Rattle.rmm_spec.specs.declared.event.Event.TheVariants.{Called, Returned}
use Rattle.rmm_spec.specs.CommandText.{IsCommand}
use Rattle.rmm_spec.specs.HistoryText.{Config, History}
use Rattle.commit_tickets.specs.Entries.{Committed}
use Rattle.commit_tickets.specs.View.{TokenView, before_commits, first_tokens}
use Rattle.event_queue.specs.Records.{WasFull}
use Rattle.event_queue.specs.View.{CpuView, ScribeView, CanDrain, before_calls}
use Rattle.monitor.specs.Cpus.{ArePairs}
use Rattle.monitor.specs.Executed.{ArePaired}
use Rattle.monitor.specs.View.{MonitorView}

-- the commands that some events call, in their order
abbrev pub commands_called : List Event → List Command
commands_called [] = []
commands_called (Called cpu number command ∷ events) = command ∷ commands_called events
commands_called (Returned cpu number given ∷ events) = commands_called events

-- the commands that a token has committed, in their order
abbrev pub commands_committed : TokenView → List Command
commands_committed token = map (λ (commit : Committed). commit.command) token.mine

-- Of these events a CPU's calls are the first commands of its program, so many, and its token has committed those, but perhaps the
-- last: that one where its commit was refused, of which the token keeps the fault. It has no other fault. Commands of its program are
-- left out only behind such a fault, or where the queue, which holds so many events, was full at some moment, while the CPU had these
-- events.
pub record HasBegun (program : List Command) (capacity cpus cpu : ℕ) (own : List Event) (token : TokenView) : Type 0 where
  pub calls : ℕ
  pub commits : ℕ
  pub within : (commits ≤ calls) × (calls ≤ commits + 1) × (calls ≤ length program)
  pub called : commands_called own ≡ take calls program
  pub committed : commands_committed token ≡ take commits program
  pub fault : MatchOption token.fault (commits ≡ calls) (λ _. commits < calls)
  pub heard : List Event
  pub ends : (commits ≡ length program) ⊎ ((commits < calls) ⊎ WasFull capacity cpus cpu own heard)

-- A CPU that has called and committed nothing, with a program of commands that have texts, and no more of them than calls have numbers.
pub record CanWork (monitor : MonitorView) (program : List Command) (token : TokenView) (pass : CpuView) : Type 0 where
  pub paired : ArePaired monitor token pass
  pub fresh : token ≡ before_commits token.cpu
  pub before : pass ≡ before_calls monitor.queue monitor.config.cpus token.cpu
  pub have_texts : AllByRecursion IsCommand program
  pub few : length program ≤ 499999

-- The CPU of this number has worked at its program, with no more than two events for each call.
pub record HasWorked (monitor : MonitorView) (cpu : ℕ) (program : List Command) (token : TokenView) (pass : CpuView) : Type 0 where
  pub paired : ArePaired monitor token pass
  pub same_cpu : token.cpu ≡ cpu
  pub begun : HasBegun program monitor.capacity monitor.config.cpus cpu pass.events token
  pub few : length pass.events ≤ begun.calls + begun.calls

-- Some first CPUs, which have called and committed nothing: their tokens, their passes and what is to be their programs.
pub record AreWaiting (monitor : MonitorView) (programs : List (List Command)) (tokens : List TokenView) (passes : List CpuView)
    (given : List (Vec Command Global)) : Type 0 where
  pub pairs : ArePairs monitor tokens passes
  pub program_count : length given ≡ length tokens
  pub fresh : tokens ≡ first_tokens (length tokens)
  pub numbered : (cpu : ℕ) (token : TokenView) → slice_get tokens cpu ≡ Some token → token.cpu ≡ cpu
  pub before : (cpu : ℕ) (pass : CpuView) → slice_get passes cpu ≡ Some pass → pass ≡ before_calls monitor.queue monitor.config.cpus cpu
  pub each : (cpu : ℕ) (program : Vec Command Global) → slice_get given cpu ≡ Some program → program.items ≡ get_or programs cpu []

-- The last of some first CPUs that wait: it can work, and the others wait.
pub record IsLast (monitor : MonitorView) (programs : List (List Command))
    (tokens : List TokenView) (passes : List CpuView) (given : List (Vec Command Global))
    (token : TokenView) (pass : CpuView) (program : List Command) : Type 0 where
  pub can : CanWork monitor program token pass
  pub same_cpu : token.cpu ≡ length tokens
  pub same_program : program ≡ get_or programs (length tokens) []
  pub others : AreWaiting monitor programs tokens passes given

-- The first CPUs, so many, as they have worked.
pub record HaveWorked (monitor : MonitorView) (programs : List (List Command))
    (count : ℕ) (tokens : List TokenView) (passes : List CpuView) : Type 0 where
  pub token_count : length tokens ≡ count
  pub pass_count : length passes ≡ count
  pub each : (cpu : ℕ) (token : TokenView) (pass : CpuView) → slice_get tokens cpu ≡ Some token → slice_get passes cpu ≡ Some pass
      → HasWorked monitor cpu (get_or programs cpu []) token pass

-- what the threads of so many CPUs have promised, the last CPU first: which CPU it is, and its program
abbrev pub promised : List (List Command) → ℕ → ℕ → List (ℕ × List Command)
promised programs cpus zero = []
promised programs cpus (suc count) = promised programs cpus count ++ (cpus - suc count, get_or programs (cpus - suc count) []) ∷ []

-- All CPUs have worked, and the scribe has drained into the history of this machine.
pub record HasEnded (monitor : MonitorView) (programs : List (List Command)) (config : Config) (tokens : List TokenView) (passes : List CpuView)
    (scribe : ScribeView) (history : History) : Type 0 where
  pub worked : HaveWorked monitor programs monitor.config.cpus tokens passes
  pub drained : CanDrain monitor.queue scribe history
  pub same_config : history.config ≡ config
