-- Another order is of the same calls to the same state, or it is put in, or left out.
use Rattle.std.proofs.Common.{refl}
use Rattle.undo_log.specs.Patches.{standing_of}
use Rattle.finding.proofs.Rounds.{IsRound-lacking, taken-lacking}
use Rattle.finding.proofs.round.Round.take_lacking.Goals as goal

pub returns-then-has_alike-clause-taken : goal.returns-then-has_alike-clause-taken
returns-then-has_alike-clause-taken c = λ lost. (rw c.as_slice-lacking.ensures.value at c.has_alike.ensures) c.if-has_alike.true lost.lacking

pub returns-clause-round : goal.returns-clause-round
returns-clause-round c =
    IsRound-lacking c.args.history.now.recorded (standing_of c.args.machine.now) c.args.self.now _ c.args.order c.in_ok-push.ensures.items refl
    refl c.requires.round c.requires.order

pub returns-clause-taken : goal.returns-clause-taken
returns-clause-taken c =
    taken-lacking c.args.history.now.recorded (standing_of c.args.machine.now) c.args.self.now _ c.args.order c.in_ok-push.ensures.items refl
