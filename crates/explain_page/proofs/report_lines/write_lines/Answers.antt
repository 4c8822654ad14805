-- One line more is written.
use Rattle.std.proofs.Common.{List, ℕ, [], ◌++◌, refl, sym, ap, ◌∙◌, append-nil, append_assoc, subst, length, eqb-true}
use Rattle.std.proofs.lemmas.List.{nil_from_length}
use Rattle.explain_page.specs.Page.{AppendsText}
use Rattle.explain_page.proofs.Said.{AppendsText-both, AppendsText-none}
use Rattle.explain_page.proofs.report_lines.write_lines.Goals as goal

pub loop-rest-init : goal.loop-rest-init
loop-rest-init c = record { front = []; is_text = refl; written = AppendsText-none c.args.page.now.bytes c.args.page.now.bytes refl }

pub loop-rest-preserved : goal.loop-rest-preserved
loop-rest-preserved c = record {
  front = c.loop-rest.invariant.front ++ c.cut.result.0.now;
  is_text = c.loop-rest.invariant.is_text ∙ ap (λ (bytes : List ℕ). c.loop-rest.invariant.front ++ bytes) c.cut.ensures.whole
      ∙ sym (append_assoc c.loop-rest.invariant.front c.cut.result.0.now c.cut.result.1.now);
  written = AppendsText-both c.args.page.now.bytes c.loop-rest.page.bytes c.write_line.new.page.bytes
      c.loop-rest.invariant.front c.cut.result.0.now c.loop-rest.invariant.written
      c.in_ok-write_line.ensures;
}

pub returns : goal.returns
returns c =
    let over = nil_from_length c.loop-rest.rest.now (eqb-true (length c.loop-rest.rest.now) 0 (sym c.is_empty.ensures ∙ c.loop-rest-test.false)) in
    let whole = sym (append-nil c.loop-rest.invariant.front)
    ∙ ap (λ (bytes : List ℕ). c.loop-rest.invariant.front ++ bytes) (sym over) ∙ sym c.loop-rest.invariant.is_text in
    subst (AppendsText c.args.page.now.bytes c.loop-rest.page.bytes) whole c.loop-rest.invariant.written
