use Rattle.history.proofs.PieceLaws.{well_begun}
use Rattle.history.proofs.beginning.Beginning.well_begun.Goals as goal

pub returns : goal.returns
returns c =
    rw (← c.self.view_is) (λ line bad.
    well_begun c.self.inside.history c.self.inside.line line c.next_number-fact.ensures.well_formed c.bytes-fact.ensures.no_newline bad)
