-- The machine gives the reply or refuses it.
use Rattle.finding.proofs.Common.{AllLost, RoundLost, subst, sym, ◌∙◌}
use Rattle.std.proofs.lemmas.Result.{on_ok_weaker}
use Rattle.undo_log.specs.Patches.{Standing, standing_of}
use Rattle.finding.proofs.Shelving.{IsLost-shelved, IsShelved-begun}
use Rattle.finding.proofs.round.Round.take_grown.Goals as goal

pub take-requires-clause-order : goal.take-requires-clause-order
take-requires-clause-order c =
    IsShelved-begun (standing_of c.put_down-machine.result.0) c.put_down-machine.result.1 c.grow.new.self (sym c.put_down-machine.ensures.back)
    c.args.history.now.recorded (sym c.put_down-machine.ensures.front) (rw c.if-not-given.false at c.in_ok-given.ensures.grown).begun

pub returns-clause-covers : goal.returns-clause-covers
returns-clause-covers c =
    let history = c.args.history.now.recorded in
    let at = c.put_down-machine.ensures.base ∙ c.in_ok-given.ensures.base in
    on_ok_weaker c.take.result
    (λ covers lost.
    let old = covers (subst (λ (b : Standing). RoundLost history b c.take.new.self) (sym at) lost) in
    record {
      complete = old.complete;
      lacking = subst (λ (b : Standing). AllLost history b c.args.self.now.lacking.items) at old.lacking;
      next = subst (λ (b : Standing). AllLost history b c.args.self.now.next.items) at old.next;
    })
    c.take.ensures.covers

pub returns-clause-taken : goal.returns-clause-taken
returns-clause-taken c =
    let history = c.args.history.now.recorded in
    let at = c.put_down-machine.ensures.base ∙ c.in_ok-given.ensures.base in
    let grown = rw c.if-not-given.false at c.in_ok-given.ensures.grown in
    on_ok_weaker c.take.result
    (λ taken lost lines holds. grown.behind lines holds
    (IsLost-shelved (standing_of c.put_down-machine.result.0) c.put_down-machine.result.1 c.grow.new.self (sym c.put_down-machine.ensures.back)
    history (sym c.put_down-machine.ensures.front)
    (taken (subst (λ (b : Standing). RoundLost history b c.take.new.self) (sym at) lost))))
    c.take.ensures.taken
