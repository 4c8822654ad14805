-- What is answered can be made of what is held, or no whole agrees with that.
use Rattle.command_core.proofs.Common.{◌∙◌, ◌∷◌, ◌≡◌, Accepted, Bool, Command, Config, Done, Err, Hold, IsAnswer, Ok, Reaches, Refusal, Result, [], call_of, can_make, false, false≢true, flat_state, if◌then◌else◌, misshaped, new_cells, refl, subst, sym, true, ℕ}
use Rattle.rmm_spec.specs.Rows.{ok, reply_of}
use Rattle.rmm_spec.specs.Step.{CarriesOut, outcome}
use Rattle.rmm_spec.specs.Local.{LocalStep, put_all}
use Rattle.rmm_laws.proofs.Runs.{done_applies}
use Rattle.rmm_laws.specs.Whole.{side_changed}
use Rattle.rmm_laws.proofs.ShapeTies.{well_shaped-is_sound}
use Rattle.command_core.specs.Changed.{new_place, CanAnswer}
use Rattle.command_core.specs.Decided.{made_answer}
use Rattle.command_core.proofs.Changes.{is_answer}
use Rattle.command_core.proofs.Fits.{applied-fits}
use Rattle.command_core.proofs.Wholes.{Whole, state}

-- a refusal leads to no stretch
pub refused : (config : Config) (cpu : ℕ) (command : Command) (hold : Hold) (given : Refusal) → ((end : ℕ) → reply_of given ≡ ok (end ∷ []) → ⊥)
    → LocalStep config cpu command (reply_of given) hold hold → IsAnswer config cpu command hold (Err given)
unfolding new_cells new_place side_changed
refused config cpu command hold given refuses step = record {
  can = tt;
  is_local = step;
  is_furthest = record {
    right = λ cells places stretch top shaped agrees placed leads reached.
        let chosen : CarriesOut (Ok (Reaches stretch)) (flat_state config cells) (reply_of given) (flat_state config (put_all cells hold.cells)) =
        subst (λ a. CarriesOut a (flat_state config cells) (reply_of given) (flat_state config (put_all cells hold.cells))) leads
        (step.right cells places shaped agrees placed).0 in
        absurd (refuses chosen.0 chosen.1.1);
  };
}

-- where no whole agrees, anything is a local step
pub no_whole : (config : Config) (cpu : ℕ) (command : Command) (hold : Hold)
    → (Whole config cpu hold → ⊥) → IsAnswer config cpu command hold (Err misshaped)
no_whole config cpu command hold none = is_answer config cpu command hold (Err misshaped) tt (λ w. absurd (none w))

-- what each whole that agrees answers can be made of what is held, or there is no such whole
pub made-answered : (config : Config) (cpu : ℕ) (command : Command) (hold : Hold) (answer : Result Accepted Refusal) → CanAnswer cpu hold answer
    → ((w : Whole config cpu hold) → outcome (state config cpu hold w) cpu (call_of command) ≡ answer)
    → IsAnswer config cpu command hold (made_answer config hold.cells hold.side answer)
made-answered config cpu command hold (Err refusal) can each = is_answer config cpu command hold (Err refusal) can each
made-answered config cpu command hold (Ok (Reaches stretch)) can each = absurd can
made-answered config cpu command hold (Ok (Done words change)) can each = by (can_make config hold.cells hold.side change) refl
  where
    by : (b : Bool) → can_make config hold.cells hold.side change ≡ b
        → IsAnswer config cpu command hold (if b then Ok (Done words change) else Err misshaped)
    by true fits = is_answer config cpu command hold (Ok (Done words change)) can each
    by false unfit = no_whole config cpu command hold (λ w.
        let s = state config cpu hold w in
        let applies = done_applies s cpu command words.items change (well_shaped-is_sound config hold.side w.places w.cells w.shaped) (each w) in
        false≢true (sym unfit ∙ applied-fits config cpu hold w change applies can))
