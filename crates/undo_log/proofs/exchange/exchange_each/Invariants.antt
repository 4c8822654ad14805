-- Those that are left are yet to be put in; those that were lead back.
use Rattle.std.proofs.Common.{◌≡◌, drop, reverse, take}
use Rattle.undo_log.specs.Patches.{put_all, standing_in}
use Rattle.undo_log.proofs.exchange.exchange_each.Given as goal

abbrev pub invariant-loop-item : goal.invariant-loop-item
invariant-loop-item l = record {
  there : put_all (reverse (drop l.item-index l.item-items)) (standing_in l.granules) ≡ put_all (reverse l.fn.items) (standing_in l.fn.granules);
  back : put_all (take l.item-index l.item-items) (standing_in l.granules) ≡ standing_in l.fn.granules;
}
