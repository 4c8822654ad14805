use Rattle.rmm_spec.specs.Text.{parts_of}
use Rattle.reasons.specs.declared.wanted.Wanted.TheVariants as wanted
use Rattle.reasons.specs.Wanted.{GoesOn}
use Rattle.reasons.specs.Wrong.{IsCommandLine}
use Rattle.reasons.proofs.Grammars.{command_same, nothing_told_same, told_same}
use Rattle.reasons.proofs.line_parts.wrong_in_command.Goals as goal

pub returns-clause-wrong : goal.returns-clause-wrong
returns-clause-wrong c =
    told_same (GoesOn wanted.Function) IsCommandLine (parts_of c.args.text.now) c.wrong_part.result command_same c.wrong_part.ensures.wrong

pub returns-clause-none : goal.returns-clause-none
returns-clause-none c =
    nothing_told_same (GoesOn wanted.Function) IsCommandLine (parts_of c.args.text.now) c.wrong_part.result command_same c.wrong_part.ensures.none
