-- Line by line.
use Rattle.std.proofs.Common.{◌∙◌, ◌≡◌, arith, length, subst, sym}
use Rattle.std.proofs.lemmas.Bool.{eqb-true}
use Rattle.undo_log.specs.Patches.{Standing}
use Rattle.finding.specs.Begun.{AllLost, AllShelved, IsRound, RoundLost}
use Rattle.finding.proofs.Rounds.{AllLost-none}
use Rattle.finding.proofs.round.next_orders.Goals as goal

pub returns-then-is_empty : goal.returns-then-is_empty
returns-then-is_empty g c =
    let history = c.args.history.now.recorded in
    let round = c.depths.round in
    let there = c.depths.invariant.there in
    let same : round.lacking.len ≡ length round.lacking.items = omega (arith, round.lacking.ok.0) in
    let empty : round.lacking.len ≡ 0 = eqb-true round.lacking.len 0 (sym c.is_empty.ensures ∙ c.if-is_empty.true) in
    record {
      shelved = subst (λ (b : Standing). AllShelved history b round.next.items) (sym there) c.depths.invariant.round.next;
      covers = λ lost.
          c.depths.invariant.covers (record {
            complete = lost.complete;
            lacking = AllLost-none history _ round.lacking.items (sym same ∙ empty);
            next = subst (λ (b : Standing). AllLost history b round.next.items) there lost.begun;
          });
    }

pub depths-preserved : goal.depths-preserved
depths-preserved g c =
    let history = c.args.history.now.recorded in
    let there = c.depths.invariant.there in
    record {
      there = (rw c.in-Some.is at c.in_ok-deeper.ensures.base) ∙ there;
      round = subst (λ (b : Standing). IsRound history b c.in-Some.further) there (rw c.in-Some.is at c.in_ok-deeper.ensures.round);
      covers = λ lost.
          c.depths.invariant.covers
          (subst (λ (b : Standing). RoundLost history b c.depths.round) there ((rw c.in-Some.is at c.in_ok-deeper.ensures.covers)
          (subst (λ (b : Standing). RoundLost history b c.in-Some.further) (sym there) lost)));
    }
