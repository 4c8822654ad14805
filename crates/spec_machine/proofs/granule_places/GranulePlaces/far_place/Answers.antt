use Rattle.std.proofs.Common.{◌≡◌, ◌-◌, suc, sym, ap, ◌∙◌, arith}
use Rattle.spec_machine.specs.GranulePlace.{far_place, place_in}
use Rattle.spec_machine.proofs.PlaceLaws.{beyond-place, far-place}
use Rattle.spec_machine.proofs.granule_places.GranulePlaces.far_place.Goals as goal

pub returns-then-number-self : goal.returns-then-number-self
unfolding place_in
returns-then-number-self c =
    let places = c.args.self.now in
    sym (beyond-place places.near places.granules places.starts.items c.args.number c.requires c.if-number-self.true)

pub returns-then-start-eq0 : goal.returns-then-start-eq0
unfolding place_in
returns-then-start-eq0 c =
    let places = c.args.self.now in
    sym (far-place places.near places.granules places.starts.items c.args.number c.requires c.if-number-self.false
    ∙ ap (far_place places.near (c.args.number - places.near)) (sym c.start-start.ensures.is ∙ c.if-start-eq0.true))

pub returns : goal.returns
unfolding place_in
returns c =
    let places = c.args.self.now in
    let some : c.start-start.result ≡ suc (c.start-start.result - 1) = omega (arith, c.if-start-eq0.false) in
    sym (far-place places.near places.granules places.starts.items c.args.number c.requires c.if-number-self.false
    ∙ ap (far_place places.near (c.args.number - places.near)) (sym c.start-start.ensures.is ∙ some))
