use Rattle.history.proofs.PieceLaws.{too_long_held}
use Rattle.history.proofs.beginning.Beginning.hold.Goals as goal

pub returns-then-not-extend-clause-fault : goal.returns-then-not-extend-clause-fault
returns-then-not-extend-clause-fault c =
    rw (← c.self.view_is, c.next_number.ensures.number) (λ more.
    too_long_held c.self.inside.history c.self.inside.line c.args.rest.now more c.next_number.ensures.well_formed c.extend.ensures.no_newline
    (c.extend.ensures.too_long c.if-not-extend.true))
