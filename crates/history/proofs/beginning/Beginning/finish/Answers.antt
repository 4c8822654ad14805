use Rattle.std.proofs.Common.{sym, ◌∙◌}
use Rattle.std.proofs.lemmas.Bool.{false≢true}
use Rattle.history.proofs.GrammarLaws.{unfinished_header, unfinished_line}
use Rattle.history.proofs.beginning.Beginning.finish.Goals as goal

pub returns-in_default-clause-fault : goal.returns-in_default-clause-fault
returns-in_default-clause-fault c =
    rw (← c.self.view_is, c.in_default.is) (unfinished_header c.self.inside.line c.bytes-fact.ensures.no_newline)

pub returns-then-not-is_empty-clause-fault : goal.returns-then-not-is_empty-clause-fault
returns-then-not-is_empty-clause-fault c =
    rw (← c.self.view_is, c.in-Some.is, c.len.ensures)
    (unfinished_line c.in-Some.history.recorded c.self.inside.line c.well_formed-fact.ensures c.bytes-fact.ensures.no_newline
    (λ over. false≢true (sym c.if-not-is_empty.true ∙ c.is_empty.ensures.1 over)))
