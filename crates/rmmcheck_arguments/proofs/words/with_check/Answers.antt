use Rattle.std.proofs.Common.{◌∙◌, ap, ap₂}
use Rattle.std.proofs.lemmas.Result.{IfOk-weaker}
use Rattle.clap.specs.Words.{App, app_of, with_rule, with_subcommand}
use Rattle.rmmcheck_arguments.proofs.Asked.{neither}
use Rattle.rmmcheck_arguments.proofs.words.with_check.Goals as goal

pub returns : goal.returns
returns c =
    let first_is = c.in_ok-arg.ensures.shape c.path_named.ensures.local ∙ ap₂ with_rule c.new.ensures.app c.path_named.ensures.rule in
    let first_local = c.in_ok-arg.ensures.globals ∙ neither c.new.ensures.local c.path_named.ensures.local in
    let check_is = c.in_ok-check.ensures.shape c.path_named-2.ensures.local ∙ ap₂ with_rule first_is c.path_named-2.ensures.rule in
    let check_local = c.in_ok-check.ensures.globals ∙ neither first_local c.path_named-2.ensures.local in
    IfOk-weaker c.subcommand.result _ _
    (λ command h. h.shape check_local ∙ ap (λ (a : App). with_subcommand (app_of c.args.program) a.top) check_is) c.subcommand.ensures
