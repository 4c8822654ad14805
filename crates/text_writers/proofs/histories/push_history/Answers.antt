use Rattle.std.proofs.Common.{arith, ◌++◌, ◌∷◌, [], map}
use Rattle.std.proofs.lemmas.Grind.{common_steps}
use Rattle.text_writers.proofs.WriteLaws.{begun_append}
use Rattle.rmm_spec.specs.HistoryText.{config_parts, event_parts}
use Rattle.rmm_spec.specs.Text.{line_text, lines_text}
use Rattle.text_writers.proofs.histories.push_history.Goals as goal

pub returns-in_err-push_header-clause-beginning : goal.returns-in_err-push_header-clause-beginning
returns-in_err-push_header-clause-beginning c =
    let history = c.args.history.now.recorded in
    let begun = begun_append c.push_header.new.out.items c.args.out.now.items (line_text (config_parts history.config) ++ 10 ∷ [])
    (lines_text (map event_parts history.events)) (rw c.config.ensures at c.in_err-push_header.ensures.beginning) in
    grind (arith, common_steps, begun)
