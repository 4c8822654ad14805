-- Of the same calls to states that are one for what follows.
use Rattle.finding.proofs.Common.{refl}
use Rattle.std.proofs.Common.{subst₂}
use Rattle.undo_log.specs.Patches.{standing_of}
use Rattle.finding.specs.Begun.{IsLostAt, state_from}
use Rattle.finding.proofs.BegunLaws.{IsLost-like}
use Rattle.finding.proofs.alike.is_alike.Goals as goal

pub returns-then-unread : goal.returns-then-unread
returns-then-unread c = λ like lost.
    let base = standing_of c.args.machine.now in
    IsLost-like c.args.history.now.recorded (c.requires.unread c.if-unread.true) c.args.one.now.front c.args.other.now.front.counts
    (state_from base c.args.one.now) (state_from base c.args.other.now) c.requires.begun.begun
    (c.if-not-are_of_same_calls.ensures refl) (c.are_like.ensures like) lost

pub returns-else-unread : goal.returns-else-unread
returns-else-unread c = λ same lost.
    subst₂ (IsLostAt c.args.history.now.recorded) (c.if-not-are_of_same_calls.ensures refl) (c.are_same.ensures same) lost
