use Rattle.merging.proofs.Common.{◌≡◌, known_front, lasts_in, no_lasts, take}
use Rattle.merging.specs.Merge.{IsWalkedTo}
use Rattle.merging.specs.Naming.{events_named, lasts_after}
use Rattle.merging.specs.Seen.{walked_seen}
use Rattle.merging.proofs.merged.check_front.Given as goal

abbrev pub invariant-loop-stamp : goal.invariant-loop-stamp
invariant-loop-stamp l = record {
  walked : IsWalkedTo l.stamp (events_named l.naming l.fn.config.granules (known_front l.table.slots)) l.fn.config.cpus (walked_seen l.walk);
  lasts : lasts_in l.lasts ≡ lasts_after no_lasts (take l.stamp (known_front l.table.slots));
}
