use Rattle.world.proofs.Common.{◌∙◌, Cpu, ap, is_deciding, phase_in, sym, views_of}
use Rattle.rmm_spec.specs.World as world
use Rattle.world.proofs.Views.{told_there}
use Rattle.world.proofs.cpus.Cpus.is_deciding.Goals as goal

pub returns : goal.returns
unfolding views_of
returns c =
    c.is_deciding.ensures
    ∙ sym (ap is_deciding (told_there (λ (cpu : Cpu). phase_in cpu.phase)
    (world.Between 0) c.args.self.now c.args.cpu c.index.result.now c.requires c.index.ensures))
