use Rattle.std.proofs.Common.{◌∙◌, ap, true}
use Rattle.std.proofs.lemmas.Result.{IfOk-weaker}
use Rattle.clap.specs.Words.{App, with_subcommand}
use Rattle.clap.specs.Simple.{app_of_fields}
use Rattle.rmmcheck_arguments.specs.Words.{check_form, form_command, run_form, threads_form}
use Rattle.rmmcheck_arguments.proofs.words.program.Goals as goal

pub returns : goal.returns
returns c =
    let asked_is = ap app_of_fields c.subcommand_required-program.ensures
    ∙ ap (λ (a : App). let b : App = record a { top = record a.top { subcommand_required = true } } in b) c.new.ensures.app in
    let checks = c.in_ok-program.ensures ∙ ap (λ (a : App). with_subcommand a (form_command check_form)) asked_is in
    let runs = c.in_ok-program-2.ensures ∙ ap (λ (a : App). with_subcommand a (form_command run_form)) checks in
    IfOk-weaker c.with_play-2.result _ _
    (λ command h. h ∙ ap (λ (a : App). with_subcommand a (form_command threads_form)) runs) c.with_play-2.ensures
