-- One after another.
use Rattle.std.proofs.Common.{length, refl}
use Rattle.std.proofs.lemmas.Option.{slice_get_read}
use Rattle.registers.specs.Growing.{EndsIn}
use Rattle.registers.specs.Leads.{call_done}
use Rattle.registers.proofs.Firsts.{OfFirst-all, OfFirst-next, OfFirst-weaker}
use Rattle.registers.proofs.Grown.{IsAmong-kept}
use Rattle.registers.proofs.ending.end_each.Goals as goal

pub loop-one-preserved : goal.loop-one-preserved
loop-one-preserved c =
    let ends_in = EndsIn c.args.history.now.recorded.events c.args.place c.args.cpu (call_done c.args.call.now) in
    let old = c.loop-one.next.items in
    let new = c.end.new.next.items in
    let begun = c.args.begun.now in
    let index = c.loop-one.one-index in
    let kept = c.in_ok-end.ensures.kept in
    record {
      kept = λ i possibility was. kept i possibility (c.loop-one.invariant.kept i possibility was);
      ended =
          OfFirst-next (ends_in new) begun index c.one-item.result
          (slice_get_read begun (length begun) index c.one-item.result refl c.loop-one-test.true c.one-item.is)
          (OfFirst-weaker (ends_in old) (ends_in new) begun index (λ possibility ends fits. IsAmong-kept old new _ kept (ends fits))
          c.loop-one.invariant.ended)
          c.in_ok-end.ensures.ended;
    }

pub returns-clause-ended : goal.returns-clause-ended
returns-clause-ended c = λ possibility among.
    OfFirst-all (EndsIn c.args.history.now.recorded.events c.args.place c.args.cpu (call_done c.args.call.now) c.loop-one.next.items) c.args.begun.now
    c.loop-one.one-index c.loop-one-test.false c.loop-one.invariant.ended possibility among.0 among.1
