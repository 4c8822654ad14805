use Rattle.world.proofs.Common.{◌∙◌, Cpu, [], sym, views_of}
use Rattle.world.proofs.Views.{told_there}
use Rattle.world.proofs.cpus.Cpus.taken.Goals as goal

pub returns-clause-taken : goal.returns-clause-taken
unfolding views_of
returns-clause-taken c =
    c.deref.ensures.0 ∙ sym (told_there (λ (cpu : Cpu). cpu.taken.items) [] c.args.self.now c.args.cpu c.index.result.now c.requires c.index.ensures)
