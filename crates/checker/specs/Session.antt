-- What a session has judged of the bytes that it was given.
use Rattle.std.specs.Prelude.{◌≡◌, ℕ, List, [], ◌∷◌, ◌++◌, Option, Result, MatchResult}
use Rattle.certificate.specs.Pieces.{Begun, IsReadTo}
use Rattle.rmm_spec.specs.declared.line.Line.{Line}
use Rattle.rmm_spec.specs.CertificateText.{InCertificates, certificate_text}
use Rattle.rmm_spec.specs.Text.{IsBadLine}
use Rattle.checker.specs.Failure.{AreJudged}
use Rattle.checker.specs.Replay.{IsReplayOf, IsRefusedMemory}
use Rattle.rmm_spec.specs.HistoryText.{History}
use Rattle.checker.specs.declared.failure.Failure.{Failure}
use Rattle.checker.specs.declared.replay.Replay.{Replay}
use Rattle.checker.specs.declared.session.Session.{Session}

-- the bytes begin with lines that are judged
abbrev pub BeginsJudged : Replay → Option Failure → History → List ℕ → Type 0
BeginsJudged replay failed history text =
    (lines : List Line) × ((rest : List ℕ) × ((text ≡ certificate_text lines ++ rest) × AreJudged replay failed history lines))

-- The bytes are those that the session was given: whole lines that it has judged, and the beginning of the next,
-- or any whose line is bad whatever follows, behind lines that it has judged.
abbrev pub HasJudgedBy : Result Begun ℕ → Replay → Option Failure → History → List ℕ → Type 0
HasJudgedBy certificate replay failed history text =
    MatchResult certificate (λ kept. (lines : List Line) × (IsReadTo text lines kept × AreJudged replay failed history lines))
    (λ line. ((more : List ℕ) → IsBadLine InCertificates (text ++ more) line) × BeginsJudged replay failed history text)

abbrev pub HasJudged : Session → List ℕ → Type 0
HasJudged session text = HasJudgedBy session.certificate session.replay session.failed session.history.recorded text

-- Memory is refused for a line that ends in the piece, with the newline behind the front. Whatever text the session has judged so far,
-- up to that newline it is lines that pass, which the replay is of, and then this line.
pub record IsRefusedIn (session : Session) (piece : List ℕ) : Type 0 where
  pub front : List ℕ
  pub later : List ℕ
  pub is_piece : piece ≡ front ++ 10 ∷ later
  pub line : Line
  pub replay : Replay
  pub refused : IsRefusedMemory replay session.history.recorded line
  pub behind : (text : List ℕ) → HasJudged session text
      → (before : List Line)
      × ((text ++ (front ++ 10 ∷ []) ≡ certificate_text (before ++ line ∷ [])) × IsReplayOf replay session.history.recorded before)

-- how many offers a session has made to its machine
abbrev pub offers_of : Session → ℕ
offers_of session = session.replay.machine.offers
