-- Pages consist of pieces, whatever is appended to them.
use Rattle.std.proofs.Common.{◌≡◌, sym, ap, ◌∙◌, List, [], ◌∷◌, ◌++◌, ℕ, Bool, true, false, append-nil}
use Rattle.std.proofs.lemmas.Grind.{flat_map-append}
use Rattle.std.specs.Prelude.{if◌then◌else◌}
use Rattle.explain_page.specs.Pieces.{Piece, piece_text, texts, IsWritten}

module _ {M : Type 0} {text : M → List ℕ} {old new : List ℕ} where
  -- bytes that stay consist of the same pieces
  pub IsWritten-same : new ≡ old → IsWritten text old → IsWritten text new
  IsWritten-same same written = record { pieces = written.pieces; written = same ∙ written.written }

  -- a piece's text behind such bytes is one piece more
  pub IsWritten-append : (piece : Piece M) → new ≡ old ++ piece_text text piece → IsWritten text old → IsWritten text new
  unfolding texts
  IsWritten-append piece appended written = record {
    pieces = written.pieces ++ piece ∷ [];
    written = appended ∙ ap (λ bytes. bytes ++ piece_text text piece) written.written
        ∙ sym (flat_map-append (piece_text text) written.pieces (piece ∷ [])
        ∙ ap (λ bytes. texts text written.pieces ++ bytes) (append-nil (piece_text text piece)));
  }

  -- the same, where the text is appended or nothing is
  pub IsWritten-extend : (piece : Piece M) (bytes : List ℕ) (is_ok : Bool) → new ≡ (if is_ok then old ++ bytes else old)
      → bytes ≡ piece_text text piece → IsWritten text old → IsWritten text new
  IsWritten-extend piece bytes true extended is = IsWritten-append piece (extended ∙ ap (λ more. old ++ more) is)
  IsWritten-extend piece bytes false extended is = IsWritten-same extended
