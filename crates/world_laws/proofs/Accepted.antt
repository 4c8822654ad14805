-- What a reply says of the machine's answer: with `ok` it accepts the command, and with any other nothing changes.
use Rattle.std.proofs.Common.{◌≡◌, ℕ, true, false, Result, Ok, Err, refl, sym, ap, ◌∙◌, subst}
use Rattle.std.specs.Prelude.{IsOk}
use Rattle.rmm_spec.specs.HistoryText.{Config}
use Rattle.rmm_spec.specs.declared.accepted.Accepted.{Accepted}
use Rattle.rmm_spec.specs.declared.command.Command.{Command}
use Rattle.rmm_spec.specs.declared.refusal.Refusal.{Refusal}
use Rattle.rmm_spec.specs.declared.reply.Reply.{Reply}
use Rattle.rmm_spec.specs.Call.{call_of}
use Rattle.rmm_spec.specs.Ownership.{is_accepted}
use Rattle.rmm_spec.specs.State.{State}
use Rattle.rmm_spec.specs.Step.{outcome, CarriesOut, Step}
use Rattle.rmm_spec.specs.Flat.{flat_state}
use Rattle.rmm_spec.specs.Local.{Hold, put_all, LocalStep}
use Rattle.rmm_spec.specs.World.{World, hold_of, IsShapedWorld}
use Rattle.lemmas.proofs.Tests.{both_ways}
use Rattle.rmm_laws.proofs.RowLaws.{outcome-leads}
use Rattle.rmm_laws.proofs.StepLaws.{step-refuses}
use Rattle.world_laws.proofs.Locals.{unchanged-is_local}
use Rattle.world_laws.proofs.Recorded.{Agrees-own}

-- where `ok` may be replied the command is accepted
step-accepts : (s : State) (cpu : ℕ) (command : Command) (given : Reply) (next : State) → is_accepted given ≡ true → Step s cpu command given next
    → IsOk (outcome s cpu (call_of command))
step-accepts s cpu command given next accepted step = by (outcome s cpu (call_of command)) refl step
  where
    by : (found : Result Accepted Refusal) → outcome s cpu (call_of command) ≡ found → CarriesOut found s given next → IsOk found
    by (Ok done) is carried = refl
    by (Err refusal) is carried = both_ways (sym (ap is_accepted carried.0) ∙ accepted) (outcome-leads s cpu (call_of command) (Err refusal) is)

-- so is it in a world of which a local step with that reply can be made
pub local-accepts : (w : World) (cpu : ℕ) (command : Command) (given : Reply) (held : Hold) → IsShapedWorld w → is_accepted given ≡ true
    → LocalStep w.config cpu command given (hold_of w cpu) held → IsOk (outcome (flat_state w.config w.cells) cpu (call_of command))
local-accepts w cpu command given held shaped accepted step =
    step-accepts (flat_state w.config w.cells) cpu command given (flat_state w.config (put_all w.cells held.cells)) accepted
    (step.right w.cells w.place shaped (Agrees-own w.cells (w.taken cpu)) refl).0

-- a refusal is a local step that changes nothing
pub refused-is_local : (config : Config) (cpu : ℕ) (command : Command) (given : Reply) (old new : Hold) → is_accepted given ≡ false
    → LocalStep config cpu command given old new → LocalStep config cpu command given old old
refused-is_local config cpu command given old new refused step =
    unchanged-is_local config cpu command given old (λ cells places shaped agrees place.
    let s = flat_state config cells in
    let next = flat_state config (put_all cells new.cells) in
    let made = (step.right cells places shaped agrees place).0 in
    subst (λ (after : State). Step s cpu command given after) (step-refuses s next cpu command given made refused) made)
