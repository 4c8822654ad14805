use Rattle.world.proofs.Common.{None, arith, holder_of}
use Rattle.world.proofs.Listed.{item_at-set}
use Rattle.world.proofs.locks.Locks.set.Goals as goal
use Rattle.spec_lemmas.proofs.Lookups.{granule-within}

pub index_mut-requires : goal.index_mut-requires
index_mut-requires c = omega (arith, c.place.ensures, granule-within c.args.self.now.holders.len c.args.pa c.requires)

pub returns-clause-holders : goal.returns-clause-holders
unfolding holder_of
returns-clause-holders c =
    let holders = c.args.self.now.holders in
    item_at-set (λ holder. holder) holders.items None c.args.holder holders.len c.args.pa c.place.result holders.ok.0 c.requires c.place.ensures
