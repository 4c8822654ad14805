-- Which pieces of a page mark up.
use Rattle.std.proofs.Common.{◌≡◌, refl, sym, ap, ◌∙◌, ℕ, List, [], ◌∷◌, ◌++◌, true}
use Rattle.std.proofs.lemmas.List.Elements.{filter-append}
use Rattle.std.specs.Prelude.{decimal}
use Rattle.std.specs.List.{filter, list_all}
use Rattle.explain_page.specs.Escaped.{escaped, is_plain, marks_up}
use Rattle.explain_page.specs.Pieces.{Piece, Own, Number, Text, is_own, texts}
use Rattle.explain_page.proofs.Plain.{plain_decimal, plain_escaped, filter_plain}

-- a plain text in front changes nothing
filter_behind_plain : (xs ys : List ℕ) → list_all is_plain xs ≡ true → filter marks_up (xs ++ ys) ≡ filter marks_up ys
filter_behind_plain xs ys plain = filter-append marks_up xs ys ∙ ap (λ bytes. bytes ++ filter marks_up ys) (filter_plain xs plain)

module _ {M : Type 0} (text : M → List ℕ) where
  pub own_mark_up : (pieces : List (Piece M)) → filter marks_up (texts text pieces) ≡ filter marks_up (texts text (filter is_own pieces))
  unfolding texts
  own_mark_up [] = refl
  own_mark_up (Own piece ∷ pieces) = filter-append marks_up (text piece) (texts text pieces)
      ∙ ap (λ bytes. filter marks_up (text piece) ++ bytes) (own_mark_up pieces)
      ∙ sym (filter-append marks_up (text piece) (texts text (filter is_own pieces)))
  own_mark_up (Number number ∷ pieces) = filter_behind_plain (decimal number) (texts text pieces) (plain_decimal number) ∙ own_mark_up pieces
  own_mark_up (Text bytes ∷ pieces) = filter_behind_plain (escaped bytes) (texts text pieces) (plain_escaped bytes) ∙ own_mark_up pieces
