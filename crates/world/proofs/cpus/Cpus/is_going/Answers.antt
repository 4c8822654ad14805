use Rattle.world.proofs.Common.{◌∙◌, Cpu, ap, phase_in, sym, views_of}
use Rattle.rmm_spec.specs.World as world
use Rattle.world.specs.Cpus.{is_going}
use Rattle.world.proofs.Views.{told_there}
use Rattle.world.proofs.cpus.Cpus.is_going.Goals as goal

pub returns : goal.returns
unfolding views_of
returns c =
    c.is_going.ensures
    ∙ sym (ap is_going (told_there (λ (cpu : Cpu). phase_in cpu.phase)
    (world.Between 0) c.args.self.now c.args.cpu c.index.result.now c.requires c.index.ensures))
