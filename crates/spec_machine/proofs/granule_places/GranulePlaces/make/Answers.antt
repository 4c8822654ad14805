use Rattle.std.proofs.Common.{ℕ, ◌+◌, ◌-◌, ◌/◌, ◌<◌, length, slice_index_or, refl, arith}
use Rattle.std.proofs.lemmas.List.{length-set}
use Rattle.spec_machine.specs.GranulePlace.{place_in, count_in, room_in}
use Rattle.spec_machine.proofs.PlaceLaws.{apart-set, below-set, fresh-place, kept-place, made-place, unmade-set, unplaced}
use Rattle.spec_machine.proofs.granule_places.GranulePlaces.make.Goals as goal

pub overflow_sub-far : goal.overflow_sub-far
unfolding place_in
overflow_sub-far c =
    let places = c.args.self.now in
    (unplaced places.near places.granules places.starts.items c.args.number c.requires.within c.requires.none).0

pub index_mut-requires : goal.index_mut-requires
unfolding place_in
index_mut-requires c =
    let places = c.args.self.now in
    let none = unplaced places.near places.granules places.starts.items c.args.number c.requires.within c.requires.none in
    omega (arith, none.0, places.all, c.requires.within, places.starts.ok.0)

pub invariant_of-self : goal.invariant_of-self
unfolding place_in
invariant_of-self c =
    let places = c.args.self.now in
    let starts = places.starts.items in
    let block = (c.args.number - places.near) / 512 in
    let none = unplaced places.near places.granules starts c.args.number c.requires.within c.requires.none in
    let within : block < length starts = omega (arith, none.0, places.all, c.requires.within) in
    let below : (a : ℕ) → slice_index_or starts a 0 < places.made + 1 = λ a. omega (arith, places.below a) in
    let some : 0 < places.made + 1 = omega arith in
    record {
      many = places.many;
      first = places.first;
      all = omega (arith, places.all, length-set starts block (places.made + 1));
      short = omega (arith, places.short, length-set starts block (places.made + 1));
      apart = apart-set starts block (places.made + 1) within below places.apart;
      below = below-set starts block (places.made + 1) within below;
      left = omega (arith, places.left, length-set starts block (places.made + 1), unmade-set starts block (places.made + 1) within some none.1);
    }

pub returns-clause-place : goal.returns-clause-place
unfolding place_in
returns-clause-place c =
    let places = c.args.self.now in
    let starts = places.starts.items in
    let none = unplaced places.near places.granules starts c.args.number c.requires.within c.requires.none in
    let within : (c.args.number - places.near) / 512 < length starts = omega (arith, none.0, places.all, c.requires.within) in
    made-place places.near places.granules starts places.made c.args.number none.0 c.requires.within within

pub returns-clause-further : goal.returns-clause-further
unfolding place_in count_in room_in
returns-clause-further c =
    let places = c.args.self.now in
    let starts = places.starts.items in
    let block = (c.args.number - places.near) / 512 in
    let none = unplaced places.near places.granules starts c.args.number c.requires.within c.requires.none in
    let within : block < length starts = omega (arith, none.0, places.all, c.requires.within) in
    let some : 0 < places.made + 1 = omega arith in
    record {
      kept = λ n place is. kept-place places.near places.granules starts block (places.made + 1) n place within none.1 is;
      fresh = λ n place is. fresh-place places.near places.granules starts block places.made n place within is;
      count = omega arith;
      room = omega (arith, length-set starts block (places.made + 1));
      granules = refl;
      within = omega (arith, places.left, length-set starts block (places.made + 1), unmade-set starts block (places.made + 1) within some none.1);
    }
