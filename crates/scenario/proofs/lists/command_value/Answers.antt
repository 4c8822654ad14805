use Rattle.std.proofs.Common.{◌++◌, ap, sym, subst, ◌∙◌}
use Rattle.std.specs.Str.{IsAscii}
use Rattle.rmm_spec.specs.CommandText.{command_text}
use Rattle.scenario.proofs.AsciiTexts.{command_text-ascii}
use Rattle.scenario.proofs.lists.command_value.Goals as goal

pub text_value-requires : goal.text_value-requires
text_value-requires c =
    let text = command_text c.args.command.now in
    subst IsAscii (sym (c.in_ok-push_command.ensures.ok ∙ ap (λ xs. xs ++ text) c.new-bytes.ensures.items)) (command_text-ascii c.args.command.now)
