-- By what the call works on.
use Rattle.std.proofs.Common.{sym, ◌∙◌}
use Rattle.std.proofs.lemmas.Bool.{not-true}
use Rattle.finding.proofs.SeparateLaws.{works_on-known}
use Rattle.finding.proofs.beside.works_elsewhere.Goals as goal

pub returns-in-Some : goal.returns-in-Some
returns-in-Some c = λ elsewhere answered replied.
    works_on-known c.args.work.now c.in-Some.work c.in-Some.ensures answered c.args.granule replied
    ∙ sym c.works_on.ensures ∙ not-true c.works_on.result elsewhere
