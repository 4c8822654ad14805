use Rattle.undo_log.proofs.LikeStates.{realm-measured}
use Rattle.undo_log.proofs.same.same_realm.Goals as goal

pub returns-then-same_but_measurements : goal.returns-then-same_but_measurements
returns-then-same_but_measurements c = λ all.
    realm-measured c.args.one.now c.args.other.now (c.same_but_measurements.ensures c.if-same_but_measurements.true)
    (c.have_same_measurements.ensures.rim all) (c.have_same_measurements.ensures.rems all)
