use Rattle.spec_machine.proofs.Common.{arith, places_of}
use Rattle.spec_machine.proofs.Kept.{places-set}
use Rattle.spec_machine.proofs.places.Places.set.Goals as goal

pub returns : goal.returns
unfolding places_of
returns c =
    let p = c.args.self.now in
    places-set p.places.items c.args.cpu c.from.result c.args.place c.from.ensures (omega (arith, p.cpus, p.places.ok.0))
