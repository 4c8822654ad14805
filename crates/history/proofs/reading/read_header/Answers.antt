use Rattle.history.proofs.GrammarLaws.{bad_header, history_text-header}
use Rattle.history.proofs.reading.read_header.Goals as goal

pub returns-in-Some-clause-read : goal.returns-in-Some-clause-read
returns-in-Some-clause-read c = rw c.new.ensures (history_text-header c.in-Some.config c.args.line.now c.in-Some.ensures.found)

pub returns-in-None-clause-fault : goal.returns-in-None-clause-fault
returns-in-None-clause-fault c = λ more. bad_header c.args.line.now more c.requires c.in-None.ensures.none
