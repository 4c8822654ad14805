use Rattle.world.proofs.Common.{None, arith, holder_of}
use Rattle.world.proofs.Listed.{item_at-granule}
use Rattle.world.proofs.locks.Locks.holder.Goals as goal
use Rattle.spec_lemmas.proofs.Lookups.{granule-within}

pub index-requires : goal.index-requires
index-requires c = omega (arith, c.place.ensures, granule-within c.args.self.now.holders.len c.args.pa c.requires)

pub returns : goal.returns
unfolding holder_of
returns c =
    let holders = c.args.self.now.holders in
    item_at-granule holders.items None c.index.result.now holders.len c.args.pa c.place.result holders.ok.0 c.requires c.place.ensures c.index.ensures
