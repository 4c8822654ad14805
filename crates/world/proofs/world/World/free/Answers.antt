use Rattle.world.proofs.Common.{refl, world_of}
use Rattle.world.proofs.Taking.{held-next, learnt-next, free-next}
use Rattle.command_core.specs.declared.next.Next.TheVariants as next
use Rattle.world.proofs.Goes.{next-report}
use Rattle.world.proofs.world.World.free.Goals as goal

pub free_lock-requires : goal.free_lock-requires
free_lock-requires c =
    let w = world_of c.args.self.now in
    record {
      cpu = c.requires.cpu;
      held = held-next w c.args.cpu c.args.pa c.args.learnt c.requires.next;
      learnt = learnt-next w c.args.cpu c.args.pa c.args.learnt c.requires.next;
      freed = free-next w c.args.cpu c.args.pa c.args.learnt c.requires.next;
    }

pub returns-clause-does : goal.returns-clause-does
returns-clause-does c = rw c.free_lock.ensures.free (refl, c.free_lock.ensures.freed)

pub returns-clause-exact : goal.returns-clause-exact
returns-clause-exact c =
    rw c.free_lock.ensures.free (next-report (world_of c.args.self.now) c.args.cpu (next.Free c.args.pa c.args.learnt) c.requires.next)
