-- What a page consists of.
use Rattle.std.specs.Prelude.{◌≡◌, ℕ, List, Bool, true, false, decimal}
use Rattle.std.specs.List.{flat_map}
use Rattle.explain_page.specs.Escaped.{escaped}

-- A piece of markup that a program itself holds, a number, or a text from elsewhere.
pub data Piece (M : Type 0) : Type 0 where
  Own : M → Piece M
  Number : ℕ → Piece M
  Text : List ℕ → Piece M

abbrev pub is_own : {M : Type 0} → Piece M → Bool
is_own (Own piece) = true
is_own (Number number) = false
is_own (Text bytes) = false

module _ {M : Type 0} (text : M → List ℕ) where
  -- an own piece stands as it is, a number in decimals, and a text in its escaped form
  abbrev pub piece_text : Piece M → List ℕ
  piece_text (Own piece) = text piece
  piece_text (Number number) = decimal number
  piece_text (Text bytes) = escaped bytes

  unfoldable pub texts : List (Piece M) → List ℕ
  texts pieces = flat_map piece_text pieces

  -- The bytes are the texts of pieces.
  pub record IsWritten (bytes : List ℕ) : Type 0 where
    pub pieces : List (Piece M)
    pub written : bytes ≡ texts pieces

-- The bytes of a page, and for how many more there is room.
pub record PageView : Type 0 where
  pub bytes : List ℕ
  pub room : ℕ
