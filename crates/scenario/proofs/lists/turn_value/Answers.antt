use Rattle.std.proofs.Common.{◌++◌, ap₂, sym, subst, ◌∙◌}
use Rattle.std.specs.Str.{IsAscii}
use Rattle.rmm_spec.specs.Text.{decimal}
use Rattle.scenario.proofs.AsciiTexts.{turn_text-ascii}
use Rattle.scenario.proofs.lists.turn_value.Goals as goal

pub text_value-requires : goal.text_value-requires
text_value-requires c =
    let number = c.in_ok-push_decimal.ensures.ok ∙ ap₂ (λ xs n. xs ++ decimal n) c.new-bytes.ensures.items c.from.ensures in
    subst IsAscii (sym (c.in_ok-extend_from_slice.ensures.items ∙ ap₂ (λ xs ys. xs ++ ys) number c.will_text.ensures))
    (turn_text-ascii c.args.turn.now)
