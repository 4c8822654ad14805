-- How offers are counted, and what one leads to.
use Rattle.std.specs.Prelude.{◌≡◌, ℕ, ◌+◌, ◌-◌, ◌^◌, min, Bool, false, IsTrue, Result, IfOk, IsOk, OnErr}
use Rattle.rmm_spec.specs.declared.accepted.Accepted.{Accepted}
use Rattle.rmm_spec.specs.declared.command.Command.{Command}
use Rattle.rmm_spec.specs.declared.refusal.Refusal.{Refusal}
use Rattle.rmm_spec.specs.declared.reply.Reply.{Reply}
use Rattle.rmm_spec.specs.Call.{call_of}
use Rattle.rmm_spec.specs.State.{State}
use Rattle.rmm_spec.specs.Step.{CarriesOut, Step, outcome}
use Rattle.spec_machine.specs.Memory.{makes_table}

-- one more, up to the greatest number that is kept
abbrev pub one_more : ℕ → ℕ
one_more count = min (count + 1) (2 ^ 64 - 1)

-- whether the reply is taken: exactly where what is answered is carried out with it, and else the state stays
pub record TakesReply (answer : Result Accepted Refusal) (old : State) (reply : Reply) (given : Bool) (new : State) : Type 0 where
  pub step : IsTrue given → CarriesOut answer old reply new
  pub only : given ≡ false → (next : State) → CarriesOut answer old reply next → ⊥
  pub kept : given ≡ false → new ≡ old

-- whether a step is taken; memory is refused only where that step would make a table, and the state stays
pub record TakesStep {E : Type 0} (old : State) (cpu : ℕ) (command : Command) (reply : Reply) (result : Result Bool E) (new : State) : Type 0 where
  pub step : IfOk result (λ given. IsTrue given → Step old cpu command reply new)
  pub only : IfOk result (λ given. given ≡ false → (next : State) → Step old cpu command reply next → ⊥)
  pub kept : IfOk result (λ given. given ≡ false → new ≡ old)
  pub err : OnErr result (new ≡ old)
  pub only_tables : OnErr result (IsTrue (makes_table command.function))
  pub only_accepted : OnErr result (IsOk (outcome old cpu (call_of command)))
  pub only_given : OnErr result ((next : State) × Step old cpu command reply next)
