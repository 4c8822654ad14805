use Rattle.event_queue.proofs.Common.{arith}
use Rattle.event_queue.proofs.Stands.{count_from_stand}
use Rattle.event_queue.proofs.rest.recorded_by.Goals as goal

pub overflow_sub-result : goal.overflow_sub-result
overflow_sub-result c =
    let counted = count_from_stand c.args.pass.now.events c.args.pass.now.stand _ _ c.is_open.result
    c.well_formed-fact.ensures.stand c.next_number.ensures c.from.ensures c.is_open.ensures in
    omega (arith, counted)

pub returns-clause-count : goal.returns-clause-count
returns-clause-count c =
    let counted = count_from_stand c.args.pass.now.events c.args.pass.now.stand _ _ c.is_open.result
    c.well_formed-fact.ensures.stand c.next_number.ensures c.from.ensures c.is_open.ensures in
    omega (arith, counted)
