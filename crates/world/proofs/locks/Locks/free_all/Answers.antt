use Rattle.world.proofs.Common.{◌∙◌, None, ap, holder_of, put}
use Rattle.world.proofs.Locked.{freed_all-next}
use Rattle.world.proofs.locks.Locks.free_all.Goals as goal

pub loop-pa-preserved : goal.loop-pa-preserved
loop-pa-preserved c =
    let before = c.loop-pa.invariant in record {
      size = c.set.ensures.size ∙ before.size;
      freed = c.set.ensures.holders ∙ ap (λ holder. put holder c.pa-item.result None) before.freed
          ∙ freed_all-next c.args.taken.now c.loop-pa.pa-index c.pa-item.result (holder_of c.args.self.now) c.loop-pa-test.true c.pa-item.is;
    }
