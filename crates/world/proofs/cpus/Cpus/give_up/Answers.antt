use Rattle.world.proofs.Common.{None, Views, [], ap, put, views_of}
use Rattle.rmm_spec.specs.World.{GivenUp}
use Rattle.world.proofs.Views.{views-changed, with_cpu}
use Rattle.world.proofs.cpus.Cpus.give_up.Goals as goal

pub returns-clause-views : goal.returns-clause-views
unfolding views_of
returns-clause-views c =
    let cpu = c.args.cpu in
    let v = views_of c.args.self.now in
    views-changed c.args.self.now cpu c.index_mut-cpu.result.now _
    (λ (w : Views). record w { waits = put v.waits cpu None; taken = put v.taken cpu []; phase = put v.phase cpu GivenUp })
    c.requires c.index_mut-cpu.ensures.value
    (ap (λ xs. record (with_cpu c.args.self.now.list.items cpu c.index_mut-cpu.result.now) {
      waits = put v.waits cpu None;
      taken = put v.taken cpu xs;
      phase = put v.phase cpu GivenUp;
    }) c.clear.ensures)
