-- By whether the lending is carried out.
use Rattle.std.proofs.Common.{sym, ◌∙◌}
use Rattle.std.proofs.lemmas.Bool.{not-true}
use Rattle.finding.specs.MayPass.{LendsApart, LendsFirst}
use Rattle.finding.proofs.passing.passes_by.Goals as goal

pub returns-then-is_carried_out : goal.returns-then-is_carried_out
returns-then-is_carried_out c = λ unnamed.
    LendsFirst c.args.granule c.requires (c.is_carried_out.ensures c.if-is_carried_out.true)
    (sym c.names.ensures ∙ not-true c.names.result unnamed)

pub returns-else-is_carried_out : goal.returns-else-is_carried_out
returns-else-is_carried_out c = λ apart. LendsApart c.args.granule c.requires (sym c.is_apart_from.ensures ∙ apart)
