use Rattle.std.proofs.Common.{sym, ◌∙◌}
use Rattle.std.proofs.lemmas.Bool.{false≢true}
use Rattle.certificate.proofs.PieceLemmas.{bad_unfinished}
use Rattle.certificate.proofs.beginning.Beginning.finish.Goals as goal

pub returns-clause-bad : goal.returns-clause-bad
returns-clause-bad c =
    rw (← c.self.view_is) (λ text lines read.
    bad_unfinished text lines _ (λ over. false≢true (sym c.if-is_empty.false ∙ c.is_empty.ensures.1 over)) read)
