-- CPU by CPU.
use Rattle.finding.proofs.Common.{HasOnePlaces-from_history, arith, inr, refl}
use Rattle.finding.proofs.Fronts.{IsLeast-looked}
use Rattle.finding.proofs.front.Front.first_at.Goals as goal

pub loop-cpu-preserved-then-rank-from : goal.loop-cpu-preserved-then-rank-from
loop-cpu-preserved-then-rank-from c =
    let history = c.args.history.now.recorded in
    record {
      least = IsLeast-looked history (HasOnePlaces-from_history history c.requires.is_history) c.args.self.now c.requires
          (omega (arith, c.cpus_of-cpu-end.ensures.count, c.cpus_of-cpu-end.ensures.few)) c.loop-cpu.cpu c.args.from c.loop-cpu.least c.loop-cpu.least
          (omega (arith, c.loop-cpu-test.true, c.cpus_of-cpu-end.ensures.count)) c.loop-cpu.invariant.least (omega arith)
          (λ late. absurd (omega (arith, late, c.if-rank-from.true)));
      found = c.loop-cpu.invariant.found;
    }

pub loop-cpu-preserved-then-least-rank : goal.loop-cpu-preserved-then-least-rank
loop-cpu-preserved-then-least-rank c =
    let history = c.args.history.now.recorded in
    record {
      least = IsLeast-looked history (HasOnePlaces-from_history history c.requires.is_history) c.args.self.now c.requires
          (omega (arith, c.cpus_of-cpu-end.ensures.count, c.cpus_of-cpu-end.ensures.few)) c.loop-cpu.cpu c.args.from c.loop-cpu.least c.loop-cpu.least
          (omega (arith, c.loop-cpu-test.true, c.cpus_of-cpu-end.ensures.count)) c.loop-cpu.invariant.least (omega arith) (λ _. c.if-least-rank.true);
      found = c.loop-cpu.invariant.found;
    }

pub loop-cpu-preserved : goal.loop-cpu-preserved
loop-cpu-preserved c =
    let history = c.args.history.now.recorded in
    record {
      least = IsLeast-looked history (HasOnePlaces-from_history history c.requires.is_history) c.args.self.now c.requires
          (omega (arith, c.cpus_of-cpu-end.ensures.count, c.cpus_of-cpu-end.ensures.few)) c.loop-cpu.cpu c.args.from c.loop-cpu.least _
          (omega (arith, c.loop-cpu-test.true, c.cpus_of-cpu-end.ensures.count)) c.loop-cpu.invariant.least
          (omega (arith, c.if-least-rank.false)) (λ _. omega arith);
      found = record {
        found = inr (
          omega (arith, c.loop-cpu-test.true, c.cpus_of-cpu-end.ensures.count),
          omega (arith, c.if-rank-from.false),
          refl,
        );
      };
    }
