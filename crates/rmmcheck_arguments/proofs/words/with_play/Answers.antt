use Rattle.std.proofs.Common.{◌∙◌, ap, ap₂}
use Rattle.std.proofs.lemmas.Result.{IfOk-weaker}
use Rattle.clap.specs.Words.{App, app_of, with_rule, with_subcommand}
use Rattle.rmmcheck_arguments.proofs.Asked.{neither}
use Rattle.rmmcheck_arguments.proofs.words.with_play.Goals as goal

pub returns : goal.returns
returns c =
    let play_is = c.in_ok-play.ensures.shape c.path_named.ensures.local ∙ ap₂ with_rule c.new.ensures.app c.path_named.ensures.rule in
    let play_local = c.in_ok-play.ensures.globals ∙ neither c.new.ensures.local c.path_named.ensures.local in
    IfOk-weaker c.subcommand.result _ _
    (λ command h. h.shape play_local ∙ ap (λ (a : App). with_subcommand (app_of c.args.program) a.top) play_is) c.subcommand.ensures
