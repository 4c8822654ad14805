use Rattle.std.proofs.Common.{◌∙◌, ◌≡◌, ap₂, subst}
use Rattle.std.specs.Prelude.{IfOk}
use Rattle.std.proofs.lemmas.Result.{IfOk-weaker}
use Rattle.clap.specs.Words.{app_of, with_rule}
use Rattle.file_programs.proofs.parsing.with_argument.Goals as goal

pub returns-in-Ok : goal.returns-in-Ok
returns-in-Ok c = λ app rule given is.
    let its : app_of c.in-Ok.command ≡ app = subst (λ made. IfOk made (λ command. app_of command ≡ app)) c.in-Ok.is given in
    IfOk-weaker c.arg.result _ _ (λ command h. h.shape c.requires ∙ ap₂ with_rule its is) c.arg.ensures
