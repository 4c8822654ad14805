use Rattle.std.proofs.Common.{◌++◌, ap, ◌∙◌}
use Rattle.rmm_spec.specs.HistoryText.{IsHistoryText, history_text}
use Rattle.spec_lemmas.proofs.HistoryGrammar.{same_history, not-IsBadLine-history}
use Rattle.text_writers.proofs.laws.history_reads_back.Goals as goal

pub returns-in-Ok : goal.returns-in-Ok
returns-in-Ok c =
    let recorded = c.args.history.now.recorded in
    let written : IsHistoryText c.as_slice.result.now recorded = record {
      is_history = c.well_formed-fact.ensures;
      is_text = c.as_slice.ensures.value ∙ c.in_ok-write_history.ensures.ok ∙ ap (λ front. front ++ history_text recorded) c.new-text.ensures.items;
    } in
    same_history c.as_slice.result.now c.in-Ok.again.recorded recorded c.in-Ok.ensures.found written

pub unreachable-requires : goal.unreachable-requires
unreachable-requires c =
    let recorded = c.args.history.now.recorded in
    let written : IsHistoryText c.as_slice.result.now recorded = record {
      is_history = c.well_formed-fact.ensures;
      is_text = c.as_slice.ensures.value ∙ c.in_ok-write_history.ensures.ok ∙ ap (λ front. front ++ history_text recorded) c.new-text.ensures.items;
    } in
    let bad = rw c.in-Err-BadLine.field-0-is at c.in-Err-BadLine.ensures.fault in
    not-IsBadLine-history c.as_slice.result.now c.in-Err-BadLine.field-0-0 (recorded, written) bad
