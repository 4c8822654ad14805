-- By the granule that is lent.
use Rattle.std.proofs.Common.{sym, ◌∙◌}
use Rattle.finding.specs.MayPass.{LendsLast}
use Rattle.finding.proofs.passing.lends_last.Goals as goal

pub returns : goal.returns
returns c = λ lets.
    LendsLast c.in-Some.granule (sym c.lent.ensures ∙ c.in-Some.is) (c.is_carried_out.ensures c.if-not-is_carried_out.false)
    (sym c.lets_lend.ensures ∙ lets)
