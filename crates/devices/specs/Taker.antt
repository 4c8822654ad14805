-- How memory is refused to what takes a source's text.
use Rattle.std.specs.Prelude.{ℕ, ◌<◌, List, [], ◌++◌, length}
use Rattle.devices.specs.Source.{Gives}

-- the source gave a text and a piece after it; the text was taken, and memory for the piece is refused to the taker
pub record RefusesPiece {S T : Type 0} (gives : S → List ℕ → S → Type 0) (has_taken : T → List ℕ → List ℕ → Type 0) (refuses : T → List ℕ → Type 0)
    (old new : S) (taker : T) : Type 0 where
  pub text : List ℕ
  pub piece : List ℕ
  pub some : 0 < length piece
  pub taken : T
  pub given : Gives gives old (text ++ piece) new
  pub handed : (before : List ℕ) → has_taken taker before [] → has_taken taken before text
  pub refused : refuses taken piece
