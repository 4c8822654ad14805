-- What is told of a refused line besides its replies.
use Rattle.std.specs.Prelude.{ℕ, List, Result, IfSome}
use Rattle.rmm_spec.specs.declared.accepted.Accepted.{Accepted}
use Rattle.rmm_spec.specs.declared.line.Line.{Line}
use Rattle.rmm_spec.specs.declared.refusal.Refusal.{Refusal}
use Rattle.rmm_spec.specs.declared.reply.Reply.{Reply}
use Rattle.rmm_spec.specs.Call.{call_of}
use Rattle.rmm_spec.specs.HistoryText.{History}
use Rattle.rmm_spec.specs.State.{State}
use Rattle.reasons.specs.declared.named_call.NamedCall.{NamedCall}
use Rattle.explain.specs.declared.cause.Told.{Told}
use Rattle.explain.specs.declared.watch.Watch.{Watch}
use Rattle.explain.specs.Before.{IsBefore}
use Rattle.explain.specs.Deciding.{IsDecision}
use Rattle.explain.specs.Late.{IsLateOf}
use Rattle.explain.specs.Put.{IsPut}
use Rattle.explain.specs.Watch.{IsSince}

-- what decides in the state before the line, since when that is so, which later step would change it, and the state
pub record IsToldOf (history : History) (lines : List Line) (index : ℕ) (here : State) (call : NamedCall)
    (specified : Result Accepted Refusal) (claimed : Reply) (told : Told) : Type 0 where
  pub watched : Watch
  pub decides : IsDecision here call.cpu call.call.command specified claimed told.deciding watched
  pub since : IsSince history lines index watched told.steps.since
  pub put : IfSome told.steps.put (IsPut history lines index told.deciding)
  pub late : IsLateOf history.events lines index call watched here told.steps.late
  pub before : IsBefore here call.cpu (call_of call.call.command) told.before
