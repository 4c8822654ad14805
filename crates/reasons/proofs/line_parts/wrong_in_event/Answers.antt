use Rattle.rmm_spec.specs.Text.{parts_of}
use Rattle.reasons.proofs.Grammars.{none_on_header, told_on_header}
use Rattle.reasons.proofs.line_parts.wrong_in_event.Goals as goal

pub returns-clause-wrong : goal.returns-clause-wrong
returns-clause-wrong c = told_on_header (parts_of c.args.header.now)
    (parts_of c.args.line.now) c.cpus_of.result c.wrong_on.result c.cpus_of.ensures c.wrong_on.ensures.wrong

pub returns-clause-none : goal.returns-clause-none
returns-clause-none c = none_on_header (parts_of c.args.header.now)
    (parts_of c.args.line.now) c.cpus_of.result c.wrong_on.result c.cpus_of.ensures c.wrong_on.ensures.none
