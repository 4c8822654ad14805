-- The texts of pieces that are appended.
use Rattle.std.proofs.Common.{◌≡◌, refl, sym, ap, ◌∙◌, ℕ, List, [], ◌∷◌, ◌++◌, append_assoc, append-nil, subst}
use Rattle.std.proofs.lemmas.Grind.{flat_map-append}
use Rattle.std.specs.Prelude.{decimal}
use Rattle.explain_page.specs.Escaped.{escaped}
use Rattle.explain_page.specs.Pieces.{Piece, Own, Number, Text, piece_text, texts}
use Rattle.explain_page.specs.declared.own.Own as own
use Rattle.explain_page.specs.declared.own.Own.TheVariants.{Frame}
use Rattle.explain_page.specs.declared.own.frame.Frame.TheVariants.{Report, End}
use Rattle.explain_page.specs.Own.{own_text}
use Rattle.explain_page.specs.Page.{AppendsReport, AppendsText, said}

said-append : (xs ys : List (Piece own.Own)) → said (xs ++ ys) ≡ said xs ++ said ys
said-append [] ys = refl
said-append (Own piece ∷ xs) ys = said-append xs ys
said-append (Number number ∷ xs) ys = said-append xs ys
said-append (Text bytes ∷ xs) ys = ap (λ (rest : List ℕ). bytes ++ rest) (said-append xs ys) ∙ sym (append_assoc bytes (said xs) (said ys))

-- nothing yet
pub AppendsText-none : (old new : List ℕ) → new ≡ old → AppendsText old new []
unfolding texts
AppendsText-none old new same = record { pieces = []; written = same ∙ sym (append-nil old); says = refl }

-- one behind the other
pub AppendsText-both : (old middle new front back : List ℕ)
    → AppendsText old middle front → AppendsText middle new back → AppendsText old new (front ++ back)
unfolding texts
AppendsText-both old middle new front back first second = record {
  pieces = first.pieces ++ second.pieces;
  written = second.written ∙ ap (λ (bytes : List ℕ). bytes ++ texts own_text second.pieces) first.written
      ∙ append_assoc old (texts own_text first.pieces) (texts own_text second.pieces)
      ∙ ap (λ (bytes : List ℕ). old ++ bytes) (sym (flat_map-append (piece_text own_text) first.pieces second.pieces));
  says = said-append first.pieces second.pieces ∙ ap (λ (bytes : List ℕ). bytes ++ said second.pieces) first.says
      ∙ ap (λ (bytes : List ℕ). front ++ bytes) second.says;
}

-- a piece of markup, and a text
pub AppendsText-own : (piece : own.Own) (old new : List ℕ) → new ≡ old ++ own_text piece → AppendsText old new []
unfolding texts
AppendsText-own piece old new is =
    record { pieces = Own piece ∷ []; written = is ∙ ap (λ (bytes : List ℕ). old ++ bytes) (sym (append-nil (own_text piece))); says = refl }

pub AppendsText-text : (text old new : List ℕ) → new ≡ old ++ escaped text → AppendsText old new text
unfolding texts
AppendsText-text text old new is =
    record { pieces = Text text ∷ []; written = is ∙ ap (λ (bytes : List ℕ). old ++ bytes) (sym (append-nil (escaped text))); says = append-nil text }

AppendsText-number : (number : ℕ) (old new : List ℕ) → new ≡ old ++ decimal number → AppendsText old new []
unfolding texts
AppendsText-number number old new is =
    record { pieces = Number number ∷ []; written = is ∙ ap (λ (bytes : List ℕ). old ++ bytes) (sym (append-nil (decimal number))); says = refl }

-- a number between markup
pub AppendsText-marked : (front : own.Own) (number : ℕ) (back : own.Own) (old a b new : List ℕ) → a ≡ old ++ own_text front → b ≡ a ++ decimal number
    → new ≡ b ++ own_text back → AppendsText old new []
AppendsText-marked front number back old a b new first second third =
    AppendsText-both old b new [] []
    (AppendsText-both old a b [] [] (AppendsText-own front old a first) (AppendsText-number number a b second)) (AppendsText-own back b new third)

-- a text between markup
pub AppendsText-around : (back : own.Own) (old a b new text : List ℕ)
    → AppendsText old a [] → AppendsText a b text → new ≡ b ++ own_text back → AppendsText old new text
AppendsText-around back old a b new text first second third =
    subst (AppendsText old new) (append-nil text)
    (AppendsText-both old b new text [] (AppendsText-both old a b [] text first second) (AppendsText-own back b new third))

-- with the frame of a report
pub AppendsReport-framed : (old a b new text : List ℕ) → a ≡ old ++ own_text (Frame Report) → AppendsText a b text → new ≡ b ++ own_text (Frame End)
    → AppendsReport old new text
unfolding texts
AppendsReport-framed old a b new text first lines last = record {
  report = lines.pieces;
  says = lines.says;
  written = last ∙ ap (λ (bytes : List ℕ). bytes ++ own_text (Frame End))
      (lines.written ∙ ap (λ (bytes : List ℕ). bytes ++ texts own_text lines.pieces) first)
      ∙ framed old (own_text (Frame Report)) (texts own_text lines.pieces) (own_text (Frame End))
      ∙ ap (λ (bytes : List ℕ). old ++ (own_text (Frame Report) ++ bytes))
      (ap (λ (bytes : List ℕ). texts own_text lines.pieces ++ bytes) (sym (append-nil (own_text (Frame End))))
      ∙ sym (flat_map-append (piece_text own_text) lines.pieces (Own (Frame End) ∷ [])));
}
  where
    framed : (a b c d : List ℕ) → ((a ++ b) ++ c) ++ d ≡ a ++ (b ++ (c ++ d))
    framed a b c d = append_assoc (a ++ b) c d ∙ append_assoc a b (c ++ d)
