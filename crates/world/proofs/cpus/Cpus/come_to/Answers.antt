use Rattle.world.proofs.Common.{None, Views, phase_in, put, refl, views_of}
use Rattle.world.proofs.Views.{views-changed}
use Rattle.world.proofs.cpus.Cpus.come_to.Goals as goal

pub returns-clause-views : goal.returns-clause-views
unfolding views_of
returns-clause-views c =
    let v = views_of c.args.self.now in
    views-changed c.args.self.now c.args.cpu c.index_mut-cpu.result.now _
    (λ (w : Views). record w { waits = put v.waits c.args.cpu None; phase = put v.phase c.args.cpu (phase_in c.args.phase) })
    c.requires c.index_mut-cpu.ensures.value refl
