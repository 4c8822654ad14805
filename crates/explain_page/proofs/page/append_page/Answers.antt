use Rattle.std.proofs.Common.{List, ℕ, ap, subst, sym, ◌∙◌, ◌++◌}
use Rattle.explain_page.specs.Pieces.{texts}
use Rattle.rmm_spec.specs.declared.verdict.Verdict.{Verdict}
use Rattle.rmm_spec.specs.VerdictText.{verdict_line}
use Rattle.explain_page.specs.Head.{head_pieces, head_text}
use Rattle.explain.specs.Explained.{verdict_of}
use Rattle.explain_page.specs.Page.{AppendsReport}
use Rattle.explain_page.proofs.Appended.{AppendsPage-written}
use Rattle.explain_page.proofs.page.append_page.Goals as goal

pub returns-clause-ok : goal.returns-clause-ok
returns-clause-ok c =
    let lines = c.in_ok-report.ensures.ok.0 in
    let line = verdict_line (verdict_of c.args.told.now.explanation) in
    let reported = c.in_ok-report.ensures.ok.1 ∙ ap (λ bytes. bytes ++ (line ++ lines)) c.new-text.ensures.items in
    let ended = c.in_ok-extend_from_slice.ensures.items ∙ ap (λ bytes. bytes ++ c.args.end.now) reported in
    AppendsPage-written lines c.as_bytes.result.now c.as_bytes-2.result.now c.in_ok-page.page.items (c.as_bytes.ensures ∙ c.in_ok-head.ensures
    ∙ ap (λ (v : Verdict). texts head_text (head_pieces (verdict_line v))) c.verdict.ensures)
    c.in_ok-marks.ensures (c.as_slice-2.ensures.value ∙ ended)
    (subst (λ (b : List ℕ). AppendsReport c.write_front.new.page.bytes b c.as_slice-2.result.now)
    (sym c.as_bytes-2.ensures) c.in_ok-write_report.ensures) c.in_ok-page.ensures
    (c.in_ok-extend_from_slice-2.ensures.items ∙ ap (λ (bytes : List ℕ). c.args.out.now.items ++ bytes) c.as_slice-4.ensures.value)
