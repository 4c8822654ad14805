use Rattle.world.proofs.Common.{Cpu, None, sym, views_of}
use Rattle.world.proofs.Views.{told_there}
use Rattle.world.proofs.cpus.Cpus.waits.Goals as goal

pub returns : goal.returns
unfolding views_of
returns c = sym (told_there (λ (cpu : Cpu). cpu.waits) None c.args.self.now c.args.cpu c.index.result.now c.requires c.index.ensures)
