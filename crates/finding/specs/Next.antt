-- The next calls of CPUs, as they are looked at beside each other.
use Rattle.std.specs.Prelude.{◌≡◌, ℕ, ◌<◌, ◌≤◌, true, List, length, slice_get, slice_index, Option, Some, None, IfSome}
use Rattle.rmm_spec.specs.declared.command.Command.{Command}
use Rattle.rmm_spec.specs.declared.reply.Reply.{Reply}
use Rattle.rmm_spec.specs.Call.{call_of}
use Rattle.rmm_spec.specs.HistoryText.{History}
use Rattle.rmm_spec.specs.Linearization.{IsCalled, IsReturned}
use Rattle.rmm_spec.specs.Ownership.{is_accepted}
use Rattle.rmi_view.specs.Seen.{reply_seen}
use Rattle.rmi_view.specs.declared.reply.ReplyRef.{ReplyRef}
use Rattle.verdict_laws.specs.Separate.{is_freed}
use Rattle.finding.specs.Choice.{IsNextOf}
use Rattle.finding.specs.declared.next_call.NextCall.{NextCall}
use Rattle.finding.specs.declared.separate.Work.{Work}

-- it is the next call of the CPU, with its command's call and what it returned with
pub record IsNextWith (history : History) (counts : List ℕ) (cpu : ℕ) (next : NextCall) : Type 0 where
  pub is_next : IsNextOf history counts cpu (Some next.choice)
  pub command : Command
  pub is_called : IsCalled history.events next.choice.places.called next.choice.cpu next.choice.number command
  pub is_call : next.call ≡ call_of command
  pub returned : IfSome next.reply (λ r. (place : ℕ) × IsReturned history.events place next.choice.cpu next.choice.number (reply_seen r))

-- the CPU's next call, if it has one, wasn't made before the place
abbrev pub HasNoneBefore : History → List ℕ → ℕ → ℕ → Type 0
HasNoneBefore history counts place cpu =
    (called : ℕ) (command : Command) → IsCalled history.events called cpu (slice_index counts cpu) command → place ≤ called

-- what is found of a CPU's next call that was made before the place
abbrev pub IsNextFound : History → List ℕ → ℕ → ℕ → Option NextCall → Type 0
IsNextFound history counts place cpu None = HasNoneBefore history counts place cpu
IsNextFound history counts place cpu (Some next) = IsNextWith history counts cpu next

-- each CPU's is found
pub record AreOpenCalls (history : History) (counts : List ℕ) (place : ℕ) (calls : List (Option NextCall)) : Type 0 where
  pub eight : length calls ≡ 8
  pub each : (cpu : ℕ) (next : Option NextCall) → cpu < history.config.cpus → slice_get calls cpu ≡ Some next
      → IsNextFound history counts place cpu next

-- where it returned, it did with the reply
abbrev pub IsReplyOf : NextCall → Reply → Type 0
IsReplyOf next given = IfSome next.reply (λ r. reply_seen r ≡ given)

-- the reply, if there is one, is that of a call which was carried out; there is one
abbrev pub IsAccepted : Option ReplyRef → Type 0
IsAccepted None = ⊥
IsAccepted (Some r) = is_accepted (reply_seen r) ≡ true

-- it has returned as one that was carried out
abbrev pub IsCarriedOut : NextCall → Type 0
IsCarriedOut next = IsAccepted next.reply

-- the call, and what it gives back whatever it is replied
pub record IsWorkOf (next : NextCall) (work : Work) : Type 0 where
  pub is_call : work.call ≡ next.call
  pub frees : (given : Reply) (granule : ℕ) → IsReplyOf next given
      → is_freed next.call given granule ≡ is_freed next.call (reply_seen work.reply) granule
