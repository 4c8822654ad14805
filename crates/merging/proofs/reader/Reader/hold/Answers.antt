use Rattle.merging.proofs.PieceLaws.{HasRead-too_long}
use Rattle.merging.proofs.reader.Reader.hold.Goals as goal

pub returns-then-not-extend-clause-fault : goal.returns-then-not-extend-clause-fault
returns-then-not-extend-clause-fault c =
    rw c.number_after.ensures (λ text more read.
    HasRead-too_long c.args.self.now text c.args.rest.now more read c.extend.ensures.no_newline (c.extend.ensures.too_long c.if-not-extend.true))
