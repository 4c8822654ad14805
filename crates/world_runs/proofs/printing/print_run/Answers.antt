use Rattle.std.proofs.Common.{◌++◌, [], ◌∷◌, ap, ap₂, ◌∙◌}
use Rattle.rmm_spec.specs.CertificateText.{certificate_text}
use Rattle.rmm_spec.specs.HistoryText.{history_text}
use Rattle.rmm_spec.specs.VerdictText.{verdict_line}
use Rattle.world_runs.specs.RunText.{run_text}
use Rattle.world_runs.proofs.printing.print_run.Goals as goal

pub returns-clause-text : goal.returns-clause-text
unfolding run_text
returns-clause-text c =
    let history = c.in_ok-write_history.ensures.ok ∙ ap (λ xs. xs ++ history_text c.args.history.now.recorded) c.new-text.ensures.items in
    let lines = c.in_ok-write_certificate.ensures.ok ∙ ap (λ xs. xs ++ certificate_text c.args.certificate.now.lines) c.new-lines.ensures.items in
    let first = c.in_ok-push.ensures.items ∙ ap (λ xs. xs ++ 10 ∷ []) history in
    let second = c.in_ok-extend_from_slice.ensures.items ∙ ap₂ (λ xs ys. xs ++ ys) first (c.as_slice-3.ensures.value ∙ lines) in
    let both = c.in_ok-push-2.ensures.items ∙ ap (λ xs. xs ++ 10 ∷ []) second in
    let all = c.in_ok-verdict_text.ensures.ok ∙ ap (λ xs. xs ++ verdict_line c.in_ok-verdict.verdict) both in
    c.in_ok-extend_from_slice-2.ensures.items ∙ ap (λ xs. c.args.out.now.items ++ xs) (c.as_slice-4.ensures.value ∙ all)

pub returns-clause-valid : goal.returns-clause-valid
returns-clause-valid c =
    let history = c.in_ok-write_history.ensures.ok ∙ ap (λ xs. xs ++ history_text c.args.history.now.recorded) c.new-text.ensures.items in
    let lines = c.in_ok-write_certificate.ensures.ok ∙ ap (λ xs. xs ++ certificate_text c.args.certificate.now.lines) c.new-lines.ensures.items in
    c.in_ok-verdict.ensures.valid c.args.history.now.recorded c.args.certificate.now.lines
    (record { is_history = c.well_formed-fact.ensures; is_text = c.as_slice.ensures.value ∙ history })
    (record { is_certificate = c.len-fact.ensures.well_formed; is_text = c.as_slice-2.ensures.value ∙ lines })
