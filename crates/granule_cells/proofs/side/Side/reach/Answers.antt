use Rattle.std.proofs.Common.{ap, ◌∙◌, ◌+◌, ◌-◌, length}
use Rattle.granule_cells.specs.Sides.{side_of, counted_at}
use Rattle.granule_cells.proofs.SideTable.{counted_at-more}
use Rattle.granule_cells.proofs.side.Side.reach.Goals as goal

pub returns-clause-kept : goal.returns-clause-kept
unfolding side_of
returns-clause-kept c =
    let counts = c.args.self.now.rec_counts in
    let same = ap counted_at c.lengthen.ensures.items ∙ counted_at-more counts.items (c.args.place + 1 - length counts.items) in
    λ i. record { vmids = (side_of c.args.self.now).vmids; rec_counts = same i }
