use Rattle.merging.proofs.NamingLaws.{IsMergedText-merged}
use Rattle.merging.proofs.texts.merge_table.Goals as goal

pub returns-in-Ok-clause-merged : goal.returns-in-Ok-clause-merged
returns-in-Ok-clause-merged c = λ text of_text.
    IsMergedText-merged text c.args.table c.args.asked c.in-Some.config c.in_ok-naming.naming c.in-Ok.run' of_text c.in_ok-naming.ensures.naming
    c.in-Some.ensures.1 c.in-Ok.ensures.merged c.in-Ok.ensures.is_run c.in-Ok.ensures.whole
