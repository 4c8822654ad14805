use Rattle.std.proofs.Common.{rules}
use Rattle.undo_log.proofs.Common.{IsTrue, is_granule}
use Rattle.spec_machine.proofs.CanMake.{within_limit}
use Rattle.spec_machine.specs.Whole.{count_of}
use Rattle.undo_log.proofs.exchange.exchange_count.Goals as goal

pub set_count-requires : goal.set_count-requires
set_count-requires c =
    let g = c.args.granules.now in
    let there : IsTrue (is_granule (count_of g) c.args.rd) = search rules in
    within_limit g c.granules-fact.ensures.limits c.args.rd there
