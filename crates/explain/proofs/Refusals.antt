-- A line that is refused isn't given the reply that it claims.
use Rattle.explain.proofs.Common.{◌+◌, ◌∙◌, ◌≡◌, Command, Event, History, IsCalled, IsHistory, Line, List, Passes, Reply, Some, State, ap, arith, cpu_named, number_named, refl, slice_get, subst, sym, take, ℕ}
use Rattle.rmm_spec.specs.declared.verdict.Reason.TheVariants as reason
use Rattle.rmm_spec.specs.FirstFault.{FailsAt, IsRefused}
use Rattle.rmm_spec.specs.Linearization.{IsReplyOf}
use Rattle.rmm_spec.specs.Step.{Step}
use Rattle.std.proofs.lemmas.Option.{same_Some}
use Rattle.explain.proofs.Replaying.{same_state}

-- the command that it names isn't given it
pub refused-step : (events : List Event) (old : State) (line : Line) (command : Command) (given : Reply) → IsRefused events old line
    → (place : ℕ) → IsCalled events place (cpu_named line) (number_named line) command → IsReplyOf events line given
    → (next : State) → ¬ Step old (cpu_named line) command given next
refused-step events old line command given refused place is_called is_given next =
    refused (record { cpu = cpu_named line; command = command; given = given }) next
    (record { cpu = refl; called = place; is_called = is_called; given = is_given })

-- in the state to which the lines before lead
pub refused-there : (history : History) → IsHistory history → (lines : List Line) (step index : ℕ) (line : Line) (old : State)
    → FailsAt history lines step reason.Reply → step ≡ index + 1 → slice_get lines index ≡ Some line → Passes history (take index lines) old
    → IsRefused history.events old line
refused-there history is_history lines step index line old fault counted is_line passes =
    let at : fault.index ≡ index = omega (arith, fault.counted, counted) in
    let same_line = same_Some fault.line line (sym fault.is_line ∙ ap (λ (i : ℕ). slice_get lines i) at ∙ is_line) in
    let there = subst (λ (i : ℕ). Passes history (take i lines) fault.old) at fault.before in
    let same = same_state history is_history (take index lines) fault.old old there passes in
    subst (λ (s : State). IsRefused history.events s line) same (subst (λ (l : Line). IsRefused history.events fault.old l) same_line fault.fails.4)
