-- What is read of a text whose first bytes were given.
use Rattle.std.specs.Prelude.{◌≡◌, ℕ, ◌+◌, List, [], ◌∷◌, ◌++◌, length, Option, Some, None, Result, Ok, Err, MatchResult}
use Rattle.rmm_spec.specs.CertificateText.{IsCertificate, certificate_text}
use Rattle.rmm_spec.specs.Text.{HasNoNewline}
use Rattle.rmm_spec.specs.declared.line.Line.{Line}

-- how many lines were told, and the beginning of the next
pub record Begun : Type 0 where
  pub count : ℕ
  pub begun : List ℕ

-- the text is these lines and the beginning of the next
pub record IsReadTo (text : List ℕ) (lines : List Line) (kept : Begun) : Type 0 where
  pub is_certificate : IsCertificate lines
  pub counted : kept.count ≡ length lines
  pub unfinished : HasNoNewline kept.begun
  pub is_text : text ≡ certificate_text lines ++ kept.begun

-- what is kept of the bytes that were given, or the number of the bad line by which the reader has failed
abbrev pub begun_or_fault : Begun → Option ℕ → Result Begun ℕ
begun_or_fault kept None = Ok kept
begun_or_fault kept (Some line) = Err line

-- the reader hasn't failed, and has read the text to these lines
abbrev pub HasRead : Result Begun ℕ → List ℕ → List Line → Type 0
HasRead reader text lines = MatchResult reader (λ kept. IsReadTo text lines kept) (λ _. ⊥)

-- a piece's first bytes, so many: up to the first newline and with it, where there is one and a line is told, else all
abbrev pub Takes : List ℕ → ℕ → Option Line → Type 0
Takes piece count None = (count ≡ length piece) × HasNoNewline piece
Takes piece count (Some line) =
    (front : List ℕ) × ((later : List ℕ) × (HasNoNewline front × (piece ≡ front ++ 10 ∷ later) × (count ≡ length front + 1)))

-- the lines with the one that was told
abbrev pub with_told : List Line → Option Line → List Line
with_told lines None = lines
with_told lines (Some line) = lines ++ line ∷ []
