use Rattle.world.proofs.Common.{Views, put, refl, views_of}
use Rattle.world.proofs.Views.{views-changed}
use Rattle.world.proofs.cpus.Cpus.set_waits.Goals as goal

pub returns-clause-views : goal.returns-clause-views
unfolding views_of
returns-clause-views c =
    views-changed c.args.self.now c.args.cpu c.index_mut.result.now _
    (λ (w : Views). record w { waits = put (views_of c.args.self.now).waits c.args.cpu c.args.waits }) c.requires c.index_mut.ensures.value refl
