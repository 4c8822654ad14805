use Rattle.std.proofs.Common.{◌<◌, length, ◌∙◌, arith}
use Rattle.std.proofs.lemmas.List.{length-set}
use Rattle.finding.proofs.Fronts.{AreNexts-set}
use Rattle.finding.proofs.front.Front.new.Goals as goal

pub loop-cpu-preserved : goal.loop-cpu-preserved
loop-cpu-preserved c =
    let so_far = c.loop-cpu.invariant in
    let next = c.next_of-next.result in
    let eight = so_far.ranks in
    let within : c.loop-cpu.cpu < length c.loop-cpu.ranks =
    omega (arith, eight, c.loop-cpu-test.true, c.cpus_of-cpu-end.ensures.few) in
    rw c.rank_or_nowhere.ensures record {
      nexts = length-set c.loop-cpu.nexts c.loop-cpu.cpu next ∙ so_far.nexts;
      ranks = length-set c.loop-cpu.ranks c.loop-cpu.cpu _ ∙ so_far.ranks;
      each = AreNexts-set c.args.history.now.recorded _ c.loop-cpu.nexts
          c.loop-cpu.ranks c.loop-cpu.cpu next within so_far.each c.next_of-next.ensures;
    }

pub returns-clause-front : goal.returns-clause-front
returns-clause-front c = record {
  is_history = c.well_formed-fact.ensures;
  nexts = c.loop-cpu.invariant.nexts;
  ranks = c.loop-cpu.invariant.ranks;
  each = λ cpu next within at.
      c.loop-cpu.invariant.each cpu next (omega (arith, within, c.loop-cpu-test.false, c.cpus_of-cpu-end.ensures.count)) at;
}
