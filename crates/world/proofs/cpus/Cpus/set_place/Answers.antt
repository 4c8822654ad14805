use Rattle.world.proofs.Common.{Views, place_of, put, refl, views_of}
use Rattle.world.proofs.Views.{views-changed}
use Rattle.world.proofs.cpus.Cpus.set_place.Goals as goal

pub returns-clause-views : goal.returns-clause-views
unfolding views_of
returns-clause-views c =
    views-changed c.args.self.now c.args.cpu c.index_mut.result.now _
    (λ (w : Views). record w { place = put (views_of c.args.self.now).place c.args.cpu (place_of c.args.place) })
    c.requires c.index_mut.ensures.value refl
