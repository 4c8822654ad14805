-- Events recorded from the front of a text.
use Rattle.std.proofs.Common.{◌≡◌, ℕ, ◌<◌, ◌≤◌, List, [], ◌∷◌, ◌++◌, take, Option, Some, None, sym, ap, ◌∙◌, append_assoc, arith}
use Rattle.std.specs.Prelude.{IfSome}
use Rattle.rmm_spec.specs.HistoryText.{History, event_parts, history_text}
use Rattle.rmm_spec.specs.Text.{line_text}
use Rattle.rmm_spec.specs.declared.event.Event.{Event}
use Rattle.history.proofs.GrammarLaws.{history_text-next}

-- the line that stands before a place is the recorded event's
pub history_text-front : (found : Option ℕ) (old new : History) (event : Event) (text : List ℕ) (at end : ℕ) (head body : List ℕ)
    → take at text ≡ head → take end text ≡ take at text ++ (32 ∷ body ++ 10 ∷ []) → line_text (event_parts event) ≡ head ++ 32 ∷ body
    → IfSome found (λ place. new ≡ record old { events = old.events ++ event ∷ [] }) → IfSome found (λ place. place ≡ end)
    → IfSome found (λ place. history_text new ≡ history_text old ++ take place text)
history_text-front None old new event text at end head body is_head is_line spelled recorded is_place = tt
history_text-front (Some place) old new event text at end head body is_head is_line spelled recorded is_place =
    let line : line_text (event_parts event) ++ 10 ∷ [] ≡ take place text =
    ap (λ l. l ++ 10 ∷ []) spelled ∙ append_assoc head (32 ∷ body) (10 ∷ []) ∙ ap (λ h. h ++ (32 ∷ body ++ 10 ∷ [])) (sym is_head)
    ∙ sym is_line ∙ ap (λ k. take k text) (sym is_place) in
    ap history_text recorded ∙ history_text-next old event ∙ ap (λ l. history_text old ++ l) line

-- the place at which an event's line ends
pub place_on : (found : Option ℕ) (at end : ℕ) → IfSome found (λ place. place ≡ end) → at < end → IfSome found (λ place. 0 < place)
place_on None at end is_place on = tt
place_on (Some place) at end is_place on = omega (arith, is_place, on)

pub place_inside : (found : Option ℕ) (end size : ℕ) → IfSome found (λ place. place ≡ end) → end ≤ size → IfSome found (λ place. place ≤ size)
place_inside None end size is_place inside = tt
place_inside (Some place) end size is_place inside = omega (arith, is_place, inside)
