-- A reply that isn't taken: an end that the test refuses is none that the definitions allow.
use Rattle.spec_machine.proofs.Common.{◌∙◌, ◌∷◌, ◌≡◌, CarriesOut, Ok, Reaches, State, Stretch, [], both_ways, false, is_reached, ok, reached-is_reached, refl, sym, true, ℕ}
use Rattle.std.specs.Prelude.{Result}
use Rattle.rmm_spec.specs.declared.accepted.Accepted.{Accepted}
use Rattle.rmm_spec.specs.declared.refusal.Refusal.{Refusal}
use Rattle.rmm_spec.specs.declared.reply.Reply.{Reply}
use Rattle.spec_machine.specs.Offers.{TakesReply}
use Rattle.spec_lemmas.proofs.Replies.{word_of}

-- no reply reaches it
pub no_reach : (s : State) (stretch : Stretch) (top : ℕ) (given : Reply) → given ≡ ok (top ∷ []) → is_reached s stretch top ≡ false
    → (next : State) → CarriesOut (Ok (Reaches stretch)) s given next → ⊥
no_reach s stretch top given is refused next (other, (reached, told, changed)) =
    let passes : is_reached s stretch top ≡ true = rw (word_of top other (sym is ∙ told)) (reached-is_reached s stretch other reached) in
    both_ways passes refused

-- a reply with which nothing is carried out isn't taken, and the state stays
pub not_taken : (answer : Result Accepted Refusal) (s : State) (given : Reply) → ((next : State) → CarriesOut answer s given next → ⊥)
    → TakesReply answer s given false s
not_taken answer s given never = record { step = λ bad. both_ways bad refl; only = λ _. never; kept = λ _. refl }
