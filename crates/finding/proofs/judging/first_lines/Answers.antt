-- One line more.
use Rattle.finding.proofs.Common.{◌++◌, ◌∙◌, ◌∷◌, Line, List, Some, [], ap, sym}
use Rattle.lemmas.proofs.Elements.{take-next_at}
use Rattle.finding.proofs.judging.first_lines.Goals as goal

pub loop-i-preserved : goal.loop-i-preserved
loop-i-preserved c =
    c.in_ok-push.ensures.ok ∙ ap (λ (ls : List Line). ls ++ c.line_of.result ∷ []) c.loop-i.invariant
    ∙ sym (take-next_at c.args.order.now.lines c.loop-i.i c.line_of.result
    (c.line.ensures ∙ ap (λ (l : Line). Some l) (sym c.line_of.ensures)))
