-- Histories without readings, made event by event.
use Rattle.finding.proofs.Common.{◌++◌, ◌∙◌, ◌∷◌, ◌≡◌, List, Some, [], inl, inr, length, slice_get, subst, sym, ℕ}
use Rattle.lemmas.proofs.Elements.{slice_get_push_cases}
use Rattle.rmm_spec.specs.declared.event.Event.{Event}
use Rattle.verdict_laws.specs.Unread.{IsUnreadEvent}

-- one event more stands for its own
pub each_unread : (events unread : List Event) (place : ℕ) (event : Event) → length unread ≡ place
    → ((at : ℕ) (e other : Event) → slice_get events at ≡ Some e → slice_get unread at ≡ Some other → IsUnreadEvent events e other)
    → ((e : Event) → slice_get events place ≡ Some e → IsUnreadEvent events e event)
    → (at : ℕ) (e other : Event) → slice_get events at ≡ Some e → slice_get (unread ++ event ∷ []) at ≡ Some other → IsUnreadEvent events e other
each_unread events unread place event len so_far here at e other is_event is_other = elim (slice_get_push_cases unread event at other is_other) [
  | inl before ↦ so_far at e other is_event before
  | inr last ↦
      subst (IsUnreadEvent events e) (sym last.1) (here e (subst (λ (k : ℕ). slice_get events k ≡ Some e) (last.0 ∙ len) is_event))
]
