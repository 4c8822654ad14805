-- Line by line.
use Rattle.finding.proofs.Common.{IsRound, RoundLost, arith, refl, subst, sym, ◌∙◌}
use Rattle.std.proofs.lemmas.List.{take_all}
use Rattle.std.proofs.lemmas.List.Elements.{All-more, All-nil}
use Rattle.undo_log.specs.Patches.{Standing, standing_of}
use Rattle.finding.specs.Begun.{Covers, IsShelved, state_from}
use Rattle.finding.specs.Waiting.{AllLeadNowhere, LeadsNowhereWith, MayCome}
use Rattle.finding.proofs.round.Round.take_lines.Goals as goal

pub lines-init : goal.lines-init
lines-init c = record {
  base = refl;
  round = c.requires.round;
  covers = λ lost. lost;
  taken = λ lost. All-nil (LeadsNowhereWith c.args.history.now.recorded c.args.order.now.front.counts
      (state_from (standing_of c.args.machine) c.args.order.now));
}

pub take_longer-requires-clause-round : goal.take_longer-requires-clause-round
take_longer-requires-clause-round c =
    subst (λ (b : Standing). IsRound c.args.history.now.recorded b c.lines.self) (sym c.lines.invariant.base) c.lines.invariant.round

pub take_longer-requires-clause-order : goal.take_longer-requires-clause-order
take_longer-requires-clause-order c =
    subst (λ (b : Standing). IsShelved c.args.history.now.recorded b c.args.order.now) (sym c.lines.invariant.base) c.requires.order

pub take_longer-requires-clause-next : goal.take_longer-requires-clause-next
take_longer-requires-clause-next c =
    let history = c.args.history.now.recorded in
    let order = c.args.order.now in
    let next = c.next-item.result in
    subst (λ (b : Standing). MayCome history order.front.counts (state_from b order) next) (sym c.lines.invariant.base)
    (subst (MayCome history order.front.counts (state_from (standing_of c.args.machine) order)) (sym c.next-item.is)
    (c.requires.lines c.lines.next-index next c.lines-test.true))

pub lines-preserved : goal.lines-preserved
lines-preserved c =
    let history = c.args.history.now.recorded in
    let order = c.args.order.now in
    let next = c.next-item.result in
    let old = c.lines.self in
    let new = c.take_longer.new.self in
    let at = c.lines.invariant.base in
    let covers = subst (λ (b : Standing). Covers history b old new) at c.in_ok-machine.ensures.covers in
    let taken = subst (λ (b : Standing). RoundLost history b new → LeadsNowhereWith history order.front.counts (state_from b order) next) at
    c.in_ok-machine.ensures.taken in
    record {
      base = c.in_ok-machine.ensures.base ∙ at;
      round = subst (λ (b : Standing). IsRound history b new) at c.in_ok-machine.ensures.round;
      covers = λ lost. c.lines.invariant.covers (covers lost);
      taken = λ lost.
          let nowhere = LeadsNowhereWith history order.front.counts (state_from (standing_of c.args.machine) order) in
          All-more nowhere c.args.lines.now c.lines.next-index next c.lines-test.true (c.lines.invariant.taken (covers lost))
          (subst nowhere c.next-item.is (taken lost));
    }

pub returns-clause-taken : goal.returns-clause-taken
returns-clause-taken c = λ lost.
    subst (AllLeadNowhere c.args.history.now.recorded c.args.order.now.front.counts (state_from (standing_of c.args.machine) c.args.order.now))
    (take_all c.lines.next-index c.args.lines.now (omega (arith, c.lines-test.false))) (c.lines.invariant.taken lost)
