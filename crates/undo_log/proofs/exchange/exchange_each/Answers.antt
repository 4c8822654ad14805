use Rattle.std.proofs.Common.{arith, length, ◌<◌, ◌∙◌}
use Rattle.undo_log.specs.Patches.{standing_in}
use Rattle.undo_log.proofs.Patched.{leads_back, others_lead}
use Rattle.undo_log.proofs.exchange.exchange_each.Goals as goal

pub loop-item-preserved : goal.loop-item-preserved
loop-item-preserved c =
    let l = c.loop-item in
    let within : l.item-index < length l.item-items = omega (arith, c.loop-item-test.true, l.auto.item-items) in
    let given = c.exchange_one.new.item in
    let before = standing_in l.granules in
    let after = standing_in c.exchange_one.new.granules in
    record {
      there = others_lead l.item-items l.item-index given c.item-item.result before after within c.exchange_one.ensures.there
          ∙ l.invariant.there;
      back = leads_back l.item-items l.item-index given before after within c.exchange_one.ensures.back ∙ l.invariant.back;
    }
