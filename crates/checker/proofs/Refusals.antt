-- How a session is refused memory: for the line that is told next, behind lines that pass.
use Rattle.std.proofs.Common.{◌≡◌, ℕ, ◌+◌, List, [], ◌∷◌, ◌++◌, length, take, Option, Some, None, Result, Ok, Err, refl, sym, ap, ◌∙◌, subst, append_assoc}
use Rattle.std.specs.Prelude.{IsNone, IsOk, IfErr, IsSomeAnd}
use Rattle.std.proofs.lemmas.List.{append-nil}
use Rattle.certificate.proofs.PieceLemmas.{Answered, GoesOn, take_line}
use Rattle.certificate.specs.Pieces.{Begun, Takes}
use Rattle.spec_lemmas.proofs.Texts.{push-injective}
use Rattle.rmm_spec.specs.declared.line.Line.{Line}
use Rattle.rmm_spec.specs.CertificateText.{certificate_text}
use Rattle.rmm_spec.specs.HistoryText.{History}
use Rattle.rmm_spec.specs.Text.{HasNoNewline}
use Rattle.checker.specs.Failure.{IsRefusedNext}
use Rattle.checker.specs.Replay.{IsRefusedMemory, IsReplayOf}
use Rattle.checker.specs.Session.{HasJudgedBy, IsRefusedIn}
use Rattle.checker.specs.declared.failure.Failure.{Failure}
use Rattle.checker.specs.declared.replay.Replay.{Replay}
use Rattle.checker.specs.declared.session.Session.{Session}
use Rattle.checker.proofs.SessionLaws.{IsFedUpTo}

-- nothing stands behind the newline that ends a text
nothing_behind : (xs ys rest : List ℕ) → HasNoNewline rest → xs ++ 10 ∷ [] ≡ ys ++ rest → rest ≡ []
nothing_behind xs ys [] none same = refl
nothing_behind xs ys (byte ∷ []) none same = absurd (none.0 (sym (push-injective xs ys 10 byte same).1))
nothing_behind xs ys (byte ∷ next ∷ rest) none same =
    absurd (let e : next ∷ rest ≡ [] =
    nothing_behind xs (ys ++ byte ∷ []) (next ∷ rest) none.1 (same ∙ sym (append_assoc ys (byte ∷ []) (next ∷ rest))) in cc)

-- the lines before the one that is told, and the text up to its newline
lines_before : (old new : Result Begun ℕ) (count : ℕ) (line : Line) (replay : Replay) (failed : Option Failure) (history : History)
    (text rest front later : List ℕ) → IsOk old → IsOk new → IsNone failed → rest ≡ front ++ 10 ∷ later → count ≡ length front + 1
    → GoesOn old new count (Some line) rest → HasJudgedBy old replay failed history text
    → (before : List Line) × ((text ++ (front ++ 10 ∷ []) ≡ certificate_text (before ++ line ∷ [])) × IsReplayOf replay history before)
lines_before (Ok old) (Ok new) count line replay None history text rest front later is_ok goes none is_rest counted goes_on given =
    let lines = given.0 in
    let told = certificate_text (lines ++ line ∷ []) in
    let read = goes_on text lines given.1.0 in
    let taken : take count rest ≡ front ++ 10 ∷ [] = ap (take count) is_rest ∙ take_line count front later counted in
    let is_text : text ++ (front ++ 10 ∷ []) ≡ told ++ new.begun = ap (λ b. text ++ b) (sym taken) ∙ read.is_text in
    let nothing : new.begun ≡ [] = nothing_behind (text ++ front) told new.begun read.unfinished (append_assoc text front (10 ∷ []) ∙ is_text) in
    (lines, (is_text ∙ ap (λ b. told ++ b) nothing ∙ append-nil told, given.1.1.0))
lines_before (Ok old) (Ok new) count line replay (Some failure) history text rest front later is_ok goes none is_rest counted goes_on given =
    absurd cc
lines_before (Ok old) (Err l) count line replay failed history text rest front later is_ok goes none is_rest counted goes_on given = absurd cc
lines_before (Err l) new count line replay failed history text rest front later is_ok goes none is_rest counted goes_on given = absurd cc

-- a reader that tells a line hasn't failed
pub IsOk-kept : {T : Type 0} (old : Result Begun ℕ) (answer : Option T) (told : T) → answer ≡ Some told → IfErr old (λ _. answer ≡ None) → IsOk old
IsOk-kept (Ok old) answer told is_told none = refl
IsOk-kept (Err l) answer told is_told none = absurd (let e : Some told ≡ None = sym is_told ∙ none in cc)

-- the line that is told next is refused memory
pub IsRefusedIn-line : (first session : Session) (piece rest : List ℕ) (old new : Result Begun ℕ) (count : ℕ) (line : Line)
    → IsFedUpTo first session piece rest → old ≡ session.certificate → IsOk old → IsOk new → Takes rest count (Some line)
    → GoesOn old new count (Some line) rest → IsRefusedNext session.replay session.failed session.history.recorded line → IsRefusedIn first piece
IsRefusedIn-line first session piece rest old new count line fed same is_ok goes (front, (later, (no_newline, is_rest, counted))) goes_on refused =
    record {
      front = fed.front ++ front;
      later = later;
      is_piece = fed.is_piece ∙ ap (λ r. fed.front ++ r) is_rest ∙ sym (append_assoc fed.front front (10 ∷ later));
      line = line;
      replay = session.replay;
      refused = subst (λ h. IsRefusedMemory session.replay h line) fed.same_history refused.1;
      behind = λ text given.
          let judged =
          subst (λ r. HasJudgedBy r session.replay session.failed session.history.recorded (text ++ fed.front)) (sym same) (fed.judged text given) in
          let before =
          lines_before old new count line session.replay session.failed session.history.recorded (text ++ fed.front) rest front later is_ok goes
          refused.0 is_rest counted goes_on judged in (
            before.0,
            (
              ap (λ b. text ++ b) (append_assoc fed.front front (10 ∷ [])) ∙ sym (append_assoc text fed.front (front ++ 10 ∷ [])) ∙ before.1.0,
              subst (λ h. IsReplayOf session.replay h before.0) fed.same_history before.1.1,
            ),
          );
    }

-- and so where `next` tells it
pub IsRefusedIn-told : (first session : Session) (piece rest : List ℕ) (old new : Result Begun ℕ) (count : ℕ) (told : Option Line)
    → IsFedUpTo first session piece rest → old ≡ session.certificate
    → IfErr old (λ l. new ≡ Err l) → Answered new (Ok (count, told)) → Takes rest count told
    → GoesOn old new count told rest → IsSomeAnd told (IsRefusedNext session.replay session.failed session.history.recorded) → IsRefusedIn first piece
IsRefusedIn-told first session piece rest old new count None fed same stays answered taken goes_on refused = absurd refused
IsRefusedIn-told first session piece rest (Ok old) (Ok new) count (Some line) fed same stays answered taken goes_on refused =
    IsRefusedIn-line first session piece rest (Ok old) (Ok new) count line fed same refl refl taken goes_on refused
IsRefusedIn-told first session piece rest (Err l) (Ok new) count (Some line) fed same stays answered taken goes_on refused = absurd cc
IsRefusedIn-told first session piece rest old (Err m) count (Some line) fed same stays answered taken goes_on refused = absurd cc
