-- Piece by piece.
use Rattle.std.proofs.Common.{ℕ, ◌+◌, List, [], ◌∷◌, ◌++◌, ◌∙◌, ap, codes, append_assoc}
use Rattle.rmm_spec.specs.Text.{decimal}
use Rattle.finding.proofs.told.append_lost.Goals as goal

pub returns : goal.returns
returns c =
    let text = c.args.text.now.items in
    let words = codes "none\nno order survives line " in
    let line = decimal (c.args.place + 2) in
    c.in_ok-push.ensures.items
    ∙ ap (λ (bytes : List ℕ). bytes ++ 10 ∷ [])
    (c.in_ok-push_decimal.ensures.ok ∙ ap (λ (bytes : List ℕ). bytes ++ line) c.in_ok-extend_from_slice.ensures.items)
    ∙ append_assoc (text ++ words) line (10 ∷ []) ∙ append_assoc text words (line ++ 10 ∷ [])
