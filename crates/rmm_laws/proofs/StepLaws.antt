-- Steps, by what a command leads to: a refusal, one change, or a change for each end that a reply may give.
use Rattle.rmm_laws.proofs.Common.{◌∙◌, ◌∷◌, ◌≡◌, Accepted, Err, List, Ok, Refusal, Reply, Result, State, Step, [], ap, both_ways, changed, false, is_accepted, ok, outcome, reached_change, refl, sym, ℕ}
use Rattle.rmm_spec.specs.declared.accepted.Accepted.TheVariants.{Done, Reaches}
use Rattle.rmm_spec.specs.declared.command.Command.{Command}
use Rattle.rmm_spec.specs.declared.function_id.FunctionId.{FunctionId}
use Rattle.rmm_spec.specs.declared.reply.Reply.TheVariants as reply
use Rattle.rmm_spec.specs.Call.{call_of}
use Rattle.rmm_spec.specs.Footprint.{changed_parts, KeepsOthers}
use Rattle.rmm_spec.specs.Rows.{reply_of}
use Rattle.rmm_spec.specs.Step.{CarriesOut}
use Rattle.rmm_laws.proofs.CommandFacts.{OutcomeTells, outcome-tells}
use Rattle.rmm_laws.proofs.Footprints.{same-keeps, changed-keeps}
use Rattle.spec_lemmas.proofs.Replies.{word_of}

-- a reply decides the next state
carried-decides : (found : Result Accepted Refusal) (old : State) (given : Reply) (a b : State)
    → CarriesOut found old given a → CarriesOut found old given b → a ≡ b
carried-decides (Err refusal) old given a b p q = p.1 ∙ sym q.1
carried-decides (Ok (Done words change)) old given a b p q = p.1 ∙ sym q.1
carried-decides (Ok (Reaches stretch)) old given a b (top, (_, is_ok, is_next)) (other, (_, other_ok, other_next)) =
    is_next ∙ ap (λ end. changed old (reached_change stretch end)) (word_of top other (sym is_ok ∙ other_ok)) ∙ sym other_next

-- a reply other than an acceptance changes nothing
refused-unchanged : (found : Result Accepted Refusal) (old : State) (given : Reply) (new : State)
    → CarriesOut found old given new → is_accepted given ≡ false → new ≡ old
refused-unchanged (Err refusal) old given new p refused = p.1
refused-unchanged (Ok (Done words change)) old given new p refused = both_ways (rw p.0 refl) refused
refused-unchanged (Ok (Reaches stretch)) old given new (top, (_, is_ok, _)) refused = both_ways (rw is_ok refl) refused

-- some reply has a next state
carried-exists : (function : FunctionId) (w : List ℕ) (found : Result Accepted Refusal) (old : State) → OutcomeTells old function w found
    → (given : Reply) × (next : State) × CarriesOut found old given next
carried-exists function w (Err refusal) old tells = (reply_of refusal, old, (refl, refl))
carried-exists function w (Ok (Done words change)) old tells = (reply.Ok words, changed old change, (refl, refl))
carried-exists function w (Ok (Reaches stretch)) old tells =
    let end = tells.0 in (ok (end.0 ∷ []), changed old (reached_change stretch end.0), (end.0, (end.1, refl, refl)))

-- a function keeps the maps that it isn't listed with
carried-keeps : (function : FunctionId) (w : List ℕ) (found : Result Accepted Refusal) (old : State) (given : Reply) (new : State)
    → OutcomeTells old function w found → CarriesOut found old given new → KeepsOthers (changed_parts function) old new
carried-keeps function w (Err refusal) old given new tells p = rw p.1 (same-keeps (changed_parts function) old)
carried-keeps function w (Ok (Done words change)) old given new tells p = rw p.1 (changed-keeps (changed_parts function) old change tells.within)
carried-keeps function w (Ok (Reaches stretch)) old given new tells (top, (_, _, is_next)) =
    rw is_next (changed-keeps (changed_parts function) old (reached_change stretch top) (tells.1 top).within)

-- ---- steps

pub step-decides : (old a b : State) (cpu : ℕ) (command : Command) (given : Reply)
    → Step old cpu command given a → Step old cpu command given b → a ≡ b
step-decides old a b cpu command given = carried-decides (outcome old cpu (call_of command)) old given a b

pub step-refuses : (old next : State) (cpu : ℕ) (command : Command) (given : Reply)
    → Step old cpu command given next → is_accepted given ≡ false → next ≡ old
step-refuses old next cpu command given = refused-unchanged (outcome old cpu (call_of command)) old given next

pub step-exists : (old : State) (cpu : ℕ) (command : Command) → (given : Reply) × (next : State) × Step old cpu command given next
step-exists old cpu command =
    let found = outcome old cpu (call_of command) in
    carried-exists command.function command.words.items found old (outcome-tells command old cpu found refl)

pub step-keeps : (old next : State) (cpu : ℕ) (command : Command) (given : Reply)
    → Step old cpu command given next → KeepsOthers (changed_parts command.function) old next
step-keeps old next cpu command given step =
    let found = outcome old cpu (call_of command) in
    carried-keeps command.function command.words.items found old given next (outcome-tells command old cpu found refl) step
