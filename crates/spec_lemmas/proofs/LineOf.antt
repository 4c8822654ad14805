-- The line that a certificate has for a commit: kept where its return is recorded, unfinished where it isn't.
use Rattle.std.proofs.Common.{◌≡◌, ℕ, suc, Bool, true, false, ◌&&◌, ◌==◌, List, [], ◌∷◌, Some, get_or, refl, ap, ◌∙◌, eqb-true, eq-eqb}
use Rattle.std.specs.List.{list_any}
use Rattle.std.proofs.lemmas.Bool.{and_parts}
use Rattle.std.proofs.lemmas.List.Folds.{list_any_at}
use Rattle.std.proofs.lemmas.Option.{slice_get_within, get_or_from_slice_get}
use Rattle.rmm_spec.specs.declared.event.Event.{Event}
use Rattle.rmm_spec.specs.declared.event.Event.TheVariants.{Called, Returned}
use Rattle.rmm_spec.specs.declared.line.Line.TheVariants.{Keep, Unfinished}
use Rattle.rmm_spec.specs.declared.reply.Reply.{Reply}
use Rattle.rmm_spec.specs.Linearization.{IsReturned, IsFinished}
use Rattle.rmm_spec.specs.World.{Commitment, is_return_of, line_for}

pub is_return_of-returned : (cpu number : ℕ) (given : Reply) → is_return_of cpu number (Returned cpu number given) ≡ true
is_return_of-returned cpu number given = rw (eq-eqb cpu cpu refl, eq-eqb number number refl) refl

-- a recorded return keeps the line
pub line_for-returned : (events : List Event) (c : Commitment) (place : ℕ) (given : Reply) → IsReturned events place c.cpu c.number given
    → line_for events c ≡ Keep c.cpu c.number
line_for-returned events c place given is =
    let event : Event = Returned c.cpu c.number given in
    let passes : is_return_of c.cpu c.number (get_or events place event) ≡ true =
    ap (is_return_of c.cpu c.number) (get_or_from_slice_get events place event event is) ∙ is_return_of-returned c.cpu c.number given in
    rw (list_any_at (is_return_of c.cpu c.number) events place event (slice_get_within events place event is) passes) refl

-- an event that isn't the return fails the test
is_return_of-other : (cpu number : ℕ) (event : Event)
    → ((given : Reply) → event ≡ Returned cpu number given → ⊥) → is_return_of cpu number event ≡ false
is_return_of-other cpu number (Called other count command) none = refl
is_return_of-other cpu number (Returned other count given) none = by (other == cpu && count == number) refl
  where
    by : (b : Bool) → (other == cpu && count == number) ≡ b → b ≡ false
    by true is =
        let parts = and_parts (other == cpu) (count == number) is in
        absurd (none given (λ i. Returned (eqb-true other cpu parts.0 i) (eqb-true count number parts.1 i) given))
    by false is = refl

none_returned : (events : List Event) (cpu number : ℕ) → ¬ IsFinished events cpu number → list_any (is_return_of cpu number) events ≡ false
none_returned [] cpu number none = refl
none_returned (event ∷ events) cpu number none =
    rw (is_return_of-other cpu number event (λ given is. none (0, given, ap Some is)))
    (none_returned events cpu number (λ finished. none (suc finished.0, finished.1, finished.2)))

-- and where none is recorded the line is unfinished
pub line_for-unfinished : (events : List Event) (c : Commitment)
    → ¬ IsFinished events c.cpu c.number → line_for events c ≡ Unfinished c.cpu c.number c.given
line_for-unfinished events c none = rw (none_returned events c.cpu c.number none) refl
