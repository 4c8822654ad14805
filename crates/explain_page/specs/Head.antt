-- The texts of a head's pieces of markup, and what a head consists of.
use Rattle.std.specs.Prelude.{ℕ, List, [], ◌∷◌, ◌++◌, codes}
use Rattle.explain_page.specs.Pieces.{Piece, Own, Text}
use Rattle.explain_page.specs.declared.own.head.Head.{Head}
use Rattle.explain_page.specs.declared.own.head.Head.TheVariants.{Start, Style, TextStyle, PictureStyle, Heading, HeadingEnd}
use Rattle.explain_page.specs.declared.own.head.TheConstants.{START, TEXT_STYLE, PICTURE_STYLE}

unfoldable pub head_text : Head → List ℕ
head_text Start = START.now
head_text Style = codes "</title>\n<style>\n"
head_text TextStyle = TEXT_STYLE.now
head_text PictureStyle = PICTURE_STYLE.now
head_text Heading = codes "</style>\n</head>\n<body>\n<main>\n<h1>"
head_text HeadingEnd = codes "</h1>\n"

unfoldable pub title_pieces : List ℕ → List (Piece Head)
title_pieces line = Own Start ∷ Text line ∷ []

unfoldable pub style_pieces : List (Piece Head)
style_pieces = Own Style ∷ Own TextStyle ∷ Own PictureStyle ∷ []

unfoldable pub headline_pieces : List ℕ → List (Piece Head)
headline_pieces line = Own Heading ∷ Text line ∷ Own HeadingEnd ∷ []

-- the title and the headline are the line, and the style between them is the program's own
abbrev pub head_pieces : List ℕ → List (Piece Head)
head_pieces line = title_pieces line ++ style_pieces ++ headline_pieces line
