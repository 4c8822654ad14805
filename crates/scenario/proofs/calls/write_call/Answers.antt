use Rattle.std.proofs.Common.{[], ◌∷◌, ◌++◌, ap, ◌∙◌}
use Rattle.rmm_spec.specs.CommandText.{command_text}
use Rattle.scenario.proofs.Appends.{line-appends}
use Rattle.scenario.proofs.calls.write_call.Goals as goal

pub returns : goal.returns
returns c =
    let spaced = c.in_ok-push.ensures.items ∙ ap (λ xs. xs ++ 32 ∷ []) c.in_ok-push_decimal.ensures.ok in
    let written = c.in_ok-push_command.ensures.ok ∙ ap (λ xs. xs ++ command_text c.args.command.now) spaced in
    c.in_ok-push-2.ensures.items ∙ ap (λ xs. xs ++ 10 ∷ []) written ∙ line-appends _ _ _
