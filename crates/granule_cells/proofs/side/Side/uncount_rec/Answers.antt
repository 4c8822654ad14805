use Rattle.std.proofs.Common.{◌<◌, ◌≤◌, length, subst, arith}
use Rattle.granule_cells.specs.Sides.{side_of}
use Rattle.granule_cells.proofs.SideTable.{counted-granule}
use Rattle.granule_cells.proofs.side.Side.uncount_rec.Goals as goal

pub set_count-requires : goal.set_count-requires
unfolding side_of
set_count-requires c =
    let counts = c.args.self.now.rec_counts in
    let few : length counts.items ≤ 1048576 = omega (arith, counts.ok.0, c.args.self.now.counts_few) in
    counted-granule counts.items c.args.rd few (subst (λ n. 0 < n) c.counted-count.ensures c.if-count-gt0.true)
