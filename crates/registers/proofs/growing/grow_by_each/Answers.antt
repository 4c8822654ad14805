-- One open call after another.
use Rattle.std.proofs.Common.{List}
use Rattle.std.proofs.lemmas.Option.{slice_get-get_or}
use Rattle.verdict_laws.specs.Registers.{Possibility}
use Rattle.registers.specs.declared.open_call.OpenCall.{OpenCall}
use Rattle.registers.specs.Growing.{GrowsBy}
use Rattle.registers.proofs.Firsts.{OfFirst-all, OfFirst-next, OfFirst-weaker}
use Rattle.registers.proofs.Grown.{IsAmong-kept}
use Rattle.registers.proofs.growing.grow_by_each.Goals as goal

pub loop-other-preserved : goal.loop-other-preserved
loop-other-preserved c =
    let grows_in = λ (begun : List Possibility) (one : OpenCall). GrowsBy c.args.history.now.recorded.events one begun c.args.one.now in
    let old = c.loop-other.begun.items in
    let new = c.grow_by.new.begun.items in
    let opens = c.args.opens.now in
    let index = c.loop-other.other-index in
    let kept = c.in_ok-grow_by.ensures.kept in
    record {
      kept = λ i possibility was. kept i possibility (c.loop-other.invariant.kept i possibility was);
      grown =
          OfFirst-next (grows_in new) opens index _ (slice_get-get_or opens index _ c.loop-other-test.true)
          (OfFirst-weaker (grows_in old) (grows_in new) opens index (λ one grows absent fits. IsAmong-kept old new _ kept (grows absent fits))
          c.loop-other.invariant.grown)
          c.in_ok-grow_by.ensures.grown;
    }

pub returns-clause-grown : goal.returns-clause-grown
returns-clause-grown c = λ one of.
    OfFirst-all (λ (other : OpenCall). GrowsBy c.args.history.now.recorded.events other c.loop-other.begun.items c.args.one.now) c.args.opens.now
    c.loop-other.other-index c.loop-other-test.false c.loop-other.invariant.grown one of.0 of.1
