use Rattle.rmm_spec.specs.Text.{parts_of}
use Rattle.reasons.specs.declared.wanted.Wanted.TheVariants as wanted
use Rattle.reasons.specs.Wanted.{GoesOn}
use Rattle.reasons.specs.Wrong.{IsEventLine}
use Rattle.reasons.proofs.Grammars.{event_same, nothing_told_same, told_same}
use Rattle.reasons.proofs.line_parts.wrong_on.Goals as goal

pub returns-clause-wrong : goal.returns-clause-wrong
returns-clause-wrong c = told_same (GoesOn (wanted.EventLetter c.args.cpus)) (IsEventLine c.args.cpus)
    (parts_of c.args.line.now) c.wrong_part.result (event_same c.args.cpus) c.wrong_part.ensures.wrong

pub returns-clause-none : goal.returns-clause-none
returns-clause-none c = nothing_told_same (GoesOn (wanted.EventLetter c.args.cpus)) (IsEventLine c.args.cpus)
    (parts_of c.args.line.now) c.wrong_part.result (event_same c.args.cpus) c.wrong_part.ensures.none
