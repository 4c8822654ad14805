-- Another order leads to it, or it is put in, or left out.
use Rattle.std.proofs.Common.{refl}
use Rattle.undo_log.specs.Patches.{standing_of}
use Rattle.finding.proofs.Rounds.{IsRound-next, taken-next}
use Rattle.finding.proofs.round.Round.take_next.Goals as goal

pub returns-then-stands-clause-taken : goal.returns-then-stands-clause-taken
returns-then-stands-clause-taken c = λ lost. (rw c.as_slice-next.ensures.value at c.in_ok-stands.ensures.has) c.if-stands.true lost.next

pub returns-clause-round : goal.returns-clause-round
returns-clause-round c =
    IsRound-next c.args.history.now.recorded (standing_of c.args.machine) c.args.self.now _ c.args.order refl c.in_ok-push.ensures.items refl
    c.requires.round c.requires.order

pub returns-clause-taken : goal.returns-clause-taken
returns-clause-taken c =
    taken-next c.args.history.now.recorded (standing_of c.args.machine) c.args.self.now _ c.args.order refl c.in_ok-push.ensures.items
