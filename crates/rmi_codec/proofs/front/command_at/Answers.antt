use Rattle.std.proofs.Common.{map, take}
use Rattle.rmm_spec.specs.CommandText.{command_parts}
use Rattle.rmm_spec.specs.Function.{number_of}
use Rattle.rmm_spec.specs.Text.{fixed_hex, word}
use Rattle.rmi_codec.proofs.FrontLaws.{line_front, eight_front}
use Rattle.rmi_codec.proofs.front.command_at.Goals as goal

pub returns-clause-found : goal.returns-clause-found
unfolding command_parts
returns-clause-found c =
    line_front (take c.args.at c.args.text.now) (take c.in_ok-words.end c.args.text.now)
    (fixed_hex 8 (number_of c.in_ok-function.function)) (map word c.in_ok-words.words.now) _
    (eight_front c.args.text.now c.args.at _ c.requires c.if-text-at-ne32.false c.in_ok-function.ensures.found) c.in_ok-words.ensures.found
