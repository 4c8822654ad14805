use Rattle.merging.proofs.Common.{◌++◌, ◌∷◌, ◌≡◌, Some, [], arith, happened_seen, known_front, slice_get, slice_get_within, subst, sym, take}
use Rattle.std.proofs.lemmas.List.{length-take}
use Rattle.merging.specs.Merge.{AreReturns}
use Rattle.merging.proofs.RunLaws.{known_front-none, known_front-some, length-known_front, returns_in-le, AreReturns-push, AreReturns-whole}
use Rattle.merging.proofs.merged.front_of.Goals as goal
use Rattle.lemmas.proofs.Elements.{take-next_at}

pub returns-in_default-clause-stamps : goal.returns-in_default-clause-stamps
returns-in_default-clause-stamps c =
    sym (known_front-none c.args.table.now.slots c.loop-stamp.stamp c.loop-stamp.invariant.within (sym c.in_default.ensures.seen))

pub returns-in_default-clause-returns : goal.returns-in_default-clause-returns
returns-in_default-clause-returns c =
    AreReturns-whole _ (known_front c.args.table.now.slots) c.loop-stamp.stamp
    (sym (known_front-none c.args.table.now.slots c.loop-stamp.stamp c.loop-stamp.invariant.within (sym c.in_default.ensures.seen)))
    c.loop-stamp.invariant.are

pub count_return-requires-clause-room : goal.count_return-requires-clause-room
count_return-requires-clause-room c =
    let front = known_front c.args.table.now.slots in
    let below = (c.well_formed-fact.ensures c.loop-stamp.stamp (happened_seen c.in-Some.slot) (sym c.in-Some.ensures.seen)).cpu in
    omega (
      arith,
      c.loop-stamp.invariant.are.each c.in-Some.slot.cpu below,
      returns_in-le c.in-Some.slot.cpu (take c.loop-stamp.stamp front),
      length-take c.loop-stamp.stamp front,
      c.len-stamp-end.ensures.most,
      c.loop-stamp-test.true,
    )

pub loop-stamp-preserved : goal.loop-stamp-preserved
loop-stamp-preserved c =
    let front = known_front c.args.table.now.slots in
    let slot = happened_seen c.in-Some.slot in
    let below = (c.well_formed-fact.ensures c.loop-stamp.stamp slot (sym c.in-Some.ensures.seen)).cpu in
    let is : slice_get front c.loop-stamp.stamp ≡ Some slot =
    known_front-some c.args.table.now.slots c.loop-stamp.stamp slot c.loop-stamp.invariant.within (sym c.in-Some.ensures.seen) in
    let within = slice_get_within front c.loop-stamp.stamp slot is in
    record {
      within = omega (arith, within);
      are = subst (AreReturns c.count_return.new.returns) (sym (take-next_at front c.loop-stamp.stamp slot is))
          (subst (λ r. AreReturns r (take c.loop-stamp.stamp front ++ slot ∷ [])) (sym c.count_return.ensures)
          (AreReturns-push c.loop-stamp.returns (take c.loop-stamp.stamp front) slot c.loop-stamp.invariant.are below));
    }

pub returns-clause-stamps : goal.returns-clause-stamps
returns-clause-stamps c =
    omega (
      arith,
      length-known_front c.args.table.now.slots,
      c.loop-stamp.invariant.within,
      c.len.ensures.len,
      c.len-stamp-end.ensures.len,
      c.loop-stamp-test.false,
    )

pub returns-clause-returns : goal.returns-clause-returns
returns-clause-returns c =
    AreReturns-whole _ (known_front c.args.table.now.slots) c.loop-stamp.stamp
    (omega (
      arith,
      length-known_front c.args.table.now.slots,
      c.loop-stamp.invariant.within,
      c.len-stamp-end.ensures.len,
      c.loop-stamp-test.false,
    ))
    c.loop-stamp.invariant.are
