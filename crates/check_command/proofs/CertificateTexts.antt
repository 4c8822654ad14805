-- A line of a certificate's text for which memory is refused.
use Rattle.std.proofs.Common.{◌≡◌, ◌↔◌, ℕ, List, [], ◌∷◌, ◌++◌, Bool, true, false, Result, Ok, Err, refl, ap, ◌∙◌, sym, subst, append_assoc}
use Rattle.std.specs.Prelude.{IsErr, IsTrue, OnOk}
use Rattle.rmm_spec.specs.HistoryText.{History}
use Rattle.checker.specs.Session.{HasJudged, IsRefusedIn}
use Rattle.checker.specs.declared.session.Session.{Session}
use Rattle.check_command.specs.Memory.{RefusesLine}

-- a line that ends in the next piece is one of the text with it
pub RefusesLine-text : (session : Session) (text piece : List ℕ) → HasJudged session text → IsRefusedIn session piece
    → RefusesLine session.history.recorded (text ++ piece)
RefusesLine-text session text piece judged refused =
    let found = refused.behind text judged in record {
      before = found.0;
      line = refused.line;
      later = refused.later;
      is_text = ap (λ p. text ++ p) (refused.is_piece ∙ sym (append_assoc refused.front (10 ∷ []) refused.later))
          ∙ sym (append_assoc text (refused.front ++ 10 ∷ []) refused.later) ∙ ap (λ t. t ++ refused.later) found.1.0;
      replay = refused.replay;
      is_replay = found.1.1;
      refused = refused.refused;
    }

-- and so of the history that is recorded
pub RefusesLine-of : (session : Session) (recorded : History) (text piece : List ℕ) → session.history.recorded ≡ recorded → HasJudged session text
    → IsRefusedIn session piece → RefusesLine recorded (text ++ piece)
RefusesLine-of session recorded text piece same judged refused =
    subst (λ h. RefusesLine h (text ++ piece)) same (RefusesLine-text session text piece judged refused)

-- a session that goes on isn't refused memory
pub goes_on : {T E : Type 0} (answer : Result T E) (refused : Bool) → IsErr answer ↔ IsTrue refused → OnOk answer (refused ≡ false)
goes_on (Ok value) true both = absurd (let bad = both.1 refl in cc)
goes_on (Ok value) false both = refl
goes_on (Err error) refused both = tt

pub not_refused : {T E : Type 0} (answer : Result T E) (refused : Bool) (error : E) → answer ≡ Err error → IsErr answer ↔ IsTrue refused
    → refused ≡ false → ⊥
not_refused (Ok value) refused error is_error both going = cc
not_refused (Err told) true error is_error both going = cc
not_refused (Err told) false error is_error both going = let bad = both.0 refl in cc

-- two facts of an answer make a third
pub OnOk-both : {T E P Q R : Type 0} (answer : Result T E) → OnOk answer P → OnOk answer Q → (P → Q → R) → OnOk answer R
OnOk-both (Ok value) p q f = f p q
OnOk-both (Err error) p q f = tt
