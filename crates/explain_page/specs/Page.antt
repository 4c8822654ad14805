-- What a page consists of, and how it ends.
use Rattle.std.specs.Prelude.{◌≡◌, ℕ, List, [], ◌∷◌, ◌++◌}
use Rattle.explain_page.specs.Pieces.{Piece, Own, Number, Text, texts}
use Rattle.rmm_spec.specs.declared.verdict.Verdict.{Verdict}
use Rattle.rmm_spec.specs.VerdictText.{verdict_line}
use Rattle.explain_page.specs.declared.own.Own as own
use Rattle.explain_page.specs.declared.own.Own.TheVariants.{Frame}
use Rattle.explain_page.specs.declared.own.frame.Frame.TheVariants.{Report, End}
use Rattle.explain_page.specs.Head.{head_pieces, head_text}
use Rattle.explain_page.specs.Own.{own_text}

-- the texts among pieces, one behind the other
abbrev pub said : List (Piece own.Own) → List ℕ
said [] = []
said (Own piece ∷ pieces) = said pieces
said (Number number ∷ pieces) = said pieces
said (Text bytes ∷ pieces) = bytes ++ said pieces

-- pieces are appended whose texts are this one
pub record AppendsText (old new text : List ℕ) : Type 0 where
  pub pieces : List (Piece own.Own)
  pub written : new ≡ old ++ texts own_text pieces
  pub says : said pieces ≡ text

-- a report is appended: its frame, and between pieces whose texts are this one
pub record AppendsReport (old new text : List ℕ) : Type 0 where
  pub report : List (Piece own.Own)
  pub says : said report ≡ text
  pub written : new ≡ old ++ texts own_text (Own (Frame Report) ∷ report ++ Own (Frame End) ∷ [])

-- A page is appended. It begins with the verdict's line as its title and its headline, which alone have a style between them. What
-- follows are pieces: the program's own markup, numbers in decimals, and escaped texts. It ends with the report, whose texts are the verdict's
-- line, lines for people, and the end that was given.
pub record AppendsPage (verdict : Verdict) (end old new : List ℕ) : Type 0 where
  pub body : List (Piece own.Own)
  pub report : List (Piece own.Own)
  pub lines : List ℕ
  pub says : said report ≡ verdict_line verdict ++ lines ++ end
  pub appended : new ≡ old
      ++ (texts head_text (head_pieces (verdict_line verdict)) ++ texts own_text (body ++ (Own (Frame Report) ∷ report ++ Own (Frame End) ∷ [])))
