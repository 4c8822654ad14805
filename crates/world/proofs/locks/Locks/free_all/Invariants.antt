use Rattle.world.proofs.Common.{◌≡◌, holder_of, take, vec_len}
use Rattle.world.specs.Kept.{freed_all}
use Rattle.world.proofs.locks.Locks.free_all.Given as goal

abbrev pub invariant-loop-pa : goal.invariant-loop-pa
invariant-loop-pa l = record {
  size : vec_len l.self.holders ≡ vec_len l.fn.self.holders;
  freed : holder_of l.self ≡ freed_all (take l.pa-index l.taken) (holder_of l.fn.self);
}
