-- The three parts, one behind the other.
use Rattle.std.proofs.Common.{◌≡◌, List, ℕ, ◌++◌, ap, subst, ◌∙◌}
use Rattle.explain_page.specs.Pieces.{texts}
use Rattle.rmm_spec.specs.VerdictText.{verdict_line}
use Rattle.explain_page.specs.Head.{head_text, headline_pieces, style_pieces, title_pieces}
use Rattle.explain_page.proofs.Appended.{texts-three}
use Rattle.explain_page.proofs.head.head_of.Goals as goal

pub returns : goal.returns
returns c =
    let line = verdict_line c.args.verdict.now in
    let is_line : c.as_slice.result.now ≡ line =
    c.as_slice.ensures.value ∙ (c.in_ok-verdict_text.ensures.ok ∙ ap (λ (bytes : List ℕ). bytes ++ line) c.new-line.ensures.items) in
    let is_line-2 : c.as_slice-2.result.now ≡ line =
    c.as_slice-2.ensures.value ∙ (c.in_ok-verdict_text.ensures.ok ∙ ap (λ (bytes : List ℕ). bytes ++ line) c.new-line.ensures.items) in
    texts-three head_text (title_pieces line) style_pieces
    (headline_pieces line) c.new-head.result.bytes c.write_title.new.head.bytes c.write_style.new.head.bytes
    c.write_headline.new.head.bytes c.new-head.ensures
    (subst (λ (l : List ℕ). c.write_title.new.head.bytes ≡ c.new-head.result.bytes ++ texts head_text (title_pieces l))
    is_line c.in_ok-write_title.ensures)
    c.in_ok-write_style.ensures
    (subst (λ (l : List ℕ). c.write_headline.new.head.bytes ≡ c.write_style.new.head.bytes ++ texts head_text (headline_pieces l))
    is_line-2 c.in_ok-write_headline.ensures)
